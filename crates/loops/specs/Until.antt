-- A loop with fuel that may stop early: `until done f n a` applies f to a until `done` says so, and n times at most.
-- A loop's invariant says that what is left to do, `until done f left` of the state as it is, equals the whole.
use Rattle.std.specs.Prelude.{Bool, true, false, ℕ, zero, suc}

-- `elim`, and no `cond`: only the case that is taken is computed
unfoldable pub until : {A : Type 0} → (A → Bool) → (A → A) → ℕ → A → A
until done f zero a = a
until done f (suc n) a = elim (done a) [ true ↦ a | false ↦ until done f n (f a) ]
