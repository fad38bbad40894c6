-- A list that a loop fills place by place: its first k numbers are those that f tells. Assumes nothing.
use Prim.Native.Nat.{ℕ, ◌+◌, ◌<◌, ◌≤◌}
use mathlib.Core.Path.{◌≡◌, ◌∙◌}
use mathlib.Core.List.{List}
use borrow.Author.Count.{below_more}
use native.Mathlib.Omega.{arith}
use lib.ListN.{length, set, length-set}
use lib.Seq.{get_or-set_same, get_or-set_other}
use lib.Ieee.{Float, nan}
use Rattle.loops.specs.Rounded.{◌!◌}
use Rattle.loops.specs.Table.{table, table_of}

pub record Filled (n : ℕ) (f : ℕ → Float) (k : ℕ) (t : List Float) : Type 0 where
  pub upto : k ≤ n
  pub size : length t ≡ n
  pub told : (i : ℕ) → i < k → t ! i ≡ f i

pub filled_none : (n : ℕ) (f : ℕ → Float) (t : List Float) → length t ≡ n → Filled n f 0 t
filled_none n f t e = record { upto = omega arith; size = e; told = λ i l. absurd (omega arith) }

pub filled_more : {n : ℕ} {f : ℕ → Float} {k : ℕ} {t : List Float} {x : Float} → Filled n f k t → k < n → x ≡ f k → Filled n f (k + 1) (set t k x)
filled_more {n} {f} {k} {t} {x} d l e = record {
  upto = omega arith;
  size = simp length-set d.size;
  told = below_more (λ i. set t k x ! i ≡ f i) k (λ i h. get_or-set_other t k i x nan (omega arith) ∙ d.told i h)
      (get_or-set_same t k x nan (omega (arith, d.size)) ∙ e);
}

pub filled_done : {n : ℕ} {f : ℕ → Float} {k : ℕ} {t : List Float} → Filled n f k t → n ≤ k → t ≡ table n f
filled_done {n} {f} {k} {t} d h = table_of n f t nan d.size (λ i l. d.told i (omega arith))
