-- What a run is asked for: the order n, whether Q is wanted, and the tolerance.
use Rattle.std.specs.Prelude.{ℕ, Bool, Float}
use Rattle.pass.specs.declared.setting.Setting.{Setting}

abbrev pub setting : (n : ℕ) → (wanted : Bool) → (eps : Float) → Setting
setting n wanted eps = record { order = n; wanted = wanted; tolerance = eps }

-- the same, but for whether Q is wanted
abbrev pub wanting : Bool → Setting → Setting
wanting wanted asked = setting asked.order wanted asked.tolerance
