-- What a list holds after its first k numbers were rewritten: `each_to`. Assumes nothing.
use mathlib.Core.Path.{◌≡◌, refl, sym, ap, ◌∙◌}
use mathlib.Core.List.{List}
use Prim.Native.Nat.{ℕ, ◌+◌, ◌<◌, ◌≤◌}
use native.Mathlib.Omega.{arith}
use lib.ListN.{length, set, length-set, replicate}
use lib.Seq.{get_or-set_same, get_or-set_other, ext_get_or}
use lib.Ieee.{Float, nan}
use Rattle.std.proofs.lemmas.List.{length-replicate, get_or-replicate}
use Rattle.loops.specs.Rounded.{◌!◌}
use Rattle.loops.specs.Table.{table-length}
use Rattle.loops.specs.Times.{times_none, times_more, times_done, times-length, times_frame, times_at}
use Rattle.matrix.specs.Vectors.{each_to, filled, zeros}

-- ---- a loop that rewrites them one by one: before the first turn, one more, all done

pub each_to_none : (g : ℕ → Float → Float) (t : List Float) → each_to 0 g t ≡ t
unfolding each_to
each_to_none g t = times_none _ t

pub each_to_more : (k : ℕ) (g : ℕ → Float → Float) (t : List Float) → each_to (k + 1) g t ≡ set (each_to k g t) k (g k (each_to k g t ! k))
unfolding each_to
each_to_more k g t = times_more _ k t

pub each_to_done : (j k : ℕ) (g : ℕ → Float → Float) (t : List Float) → j ≤ k → k ≤ j → each_to j g t ≡ each_to k g t
unfolding each_to
each_to_done j k g t h l = times_done _ j k t h l

-- ---- what stands where

pub each_to-length : (k : ℕ) (g : ℕ → Float → Float) (t : List Float) → length (each_to k g t) ≡ length t
unfolding each_to
each_to-length k g t = times-length _ k t (λ i s. simp length-set)

pub each_to_past : (k : ℕ) (g : ℕ → Float → Float) (t : List Float) (i : ℕ) → k ≤ i → each_to k g t ! i ≡ t ! i
unfolding each_to
each_to_past k g t i h = times_frame _ k t i nan (λ j s l. get_or-set_other s j i _ nan (omega arith))

pub each_to-at : (k : ℕ) (g : ℕ → Float → Float) (t : List Float) (i : ℕ) → i < k → k ≤ length t → each_to k g t ! i ≡ g i (t ! i)
unfolding each_to
each_to-at k g t i h l =
    times_at _ k t i i nan h (λ j s m d. get_or-set_other s j i _ nan (omega arith))
    ∙ get_or-set_same (each_to i g t) i _ nan (omega (arith, each_to-length i g t))
    ∙ ap (g i) (each_to_past i g t i (omega arith))

-- ---- the same as the state of a loop: i of the first k numbers of t₀ are rewritten, and what that has made of it is t

pub record Rewriting (k : ℕ) (g : ℕ → Float → Float) (t₀ : List Float) (i : ℕ) (t : List Float) : Type 0 where
  pub upto : i ≤ k
  pub room : k ≤ length t₀
  pub size : length t ≡ length t₀
  pub done : t ≡ each_to i g t₀

pub rewriting_none : (k : ℕ) (g : ℕ → Float → Float) (t : List Float) → k ≤ length t → Rewriting k g t 0 t
rewriting_none k g t h = record { upto = omega arith; room = h; size = refl; done = sym (each_to_none g t) }

pub rewriting_more : {k : ℕ} {g : ℕ → Float → Float} {t₀ : List Float} {i : ℕ} {t : List Float} → Rewriting k g t₀ i t → i < k
    → Rewriting k g t₀ (i + 1) (set t i (g i (t ! i)))
rewriting_more {k} {g} {t₀} {i} {t} d h = record {
  upto = omega arith;
  room = d.room;
  size = simp length-set d.size;
  done = rw (each_to_more i g t₀, ← d.done);
}

pub rewriting_done : {k : ℕ} {g : ℕ → Float → Float} {t₀ : List Float} {i : ℕ} {t : List Float} → Rewriting k g t₀ i t → k ≤ i → t ≡ each_to k g t₀
rewriting_done {k} {g} {t₀} {i} d h = d.done ∙ each_to_done i k g t₀ d.upto h

-- what the checks of such loops take
pub ruleset rewriting = (rewriting_none, rewriting_done)

-- ---- one number throughout

pub filled-length : (x : Float) (t : List Float) → length (filled x t) ≡ length t
unfolding filled
filled-length x t = each_to-length _ _ t

pub filled_at : (x : Float) (t : List Float) (i : ℕ) → i < length t → filled x t ! i ≡ x
unfolding filled
filled_at x t i h = each_to-at (length t) _ t i h (omega arith)

pub filled_is : (x : Float) (t : List Float) → filled x t ≡ replicate (length t) x
filled_is x t =
    ext_get_or nan (filled x t) (replicate (length t) x) (filled-length x t ∙ sym (length-replicate (length t) x))
    (λ i l. let h : i < length t = omega (arith, filled-length x t) in filled_at x t i h ∙ sym (get_or-replicate (length t) i x nan h))

-- it does not matter what is filled over
pub filled_same : (x : Float) (s t : List Float) → length s ≡ length t → filled x s ≡ filled x t
filled_same x s t e =
    ext_get_or nan (filled x s) (filled x t) (filled-length x s ∙ e ∙ sym (filled-length x t))
    (λ i l. let h : i < length s = omega (arith, filled-length x s) in filled_at x s i h ∙ sym (filled_at x t i (omega arith)))

pub zeros-length : (k : ℕ) → length (zeros k) ≡ k
unfolding zeros
zeros-length k = table-length k _
