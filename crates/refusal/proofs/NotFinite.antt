-- The first entry that is not finite, among entries that stand for floats: what one look tells; and that there is none in a list of another
-- length, nor where all are finite. Assumes nothing.
use Rattle.std.specs.Prelude.{None, Option, map}
use Prim.Native.Nat.{ℕ, ◌*◌, ◌<◌}
use mathlib.Core.Bool.{Bool, true, false, not, true≢false}
use mathlib.Core.Path.{◌≡◌, refl, sym, ap, ◌∙◌}
use mathlib.Core.List.{List}
use native.Mathlib.Omega.{arith}
use lib.ListN.{length, get_or, length-map}
use lib.Ieee.{Float, nan}
use Rattle.std.specs.List.{list_all}
use Rattle.std.proofs.lemmas.List.{get_or-map}
use Rattle.std.proofs.lemmas.List.Folds.{list_all_at, list_all-map}
use Rattle.loops.specs.Place.{place, in_square}
use Rattle.loops.specs.Rounded.{◌!◌}
use Rattle.scalar.specs.Class.{is_finite}
use Rattle.matrix.specs.Fits.{block_fits}
use Rattle.matrix.proofs.Fitting.{fits}
use Rattle.refusal.specs.declared.refusal.Place.{Place}
use Rattle.refusal.specs.Search.{first_place, not_finite, first_not_finite}
use Rattle.refusal.proofs.Searching.{none_nowhere}

-- what a look at one entry tells, where the entry at index k is x
pub looked : {X : Type 0} (v : X → Float) (t : List X) {n i j k : ℕ} {x : X} {r : Bool} → r ≡ is_finite (v x) → x ≡ get_or t k x → k ≡ place n i j
    → length t ≡ n * n → i < n → j < n → not r ≡ not_finite n (map v t) i j
unfolding not_finite
looked v t {n = n} {i = i} {j = j} {k = k} {x = x} e is at long l m =
    let inside : k < length t = omega (arith, in_square n i j l m) in
    ap not (e ∙ ap is_finite (sym (rw (sym at) (get_or-map v t k x nan inside ∙ ap v (sym is)))))

-- where all are finite, so is the one at index k
finite_at : (s : List Float) (k : ℕ) → list_all is_finite s ≡ true → k < length s → is_finite (s ! k) ≡ true
finite_at s k all l = go (is_finite (s ! k)) (list_all_at is_finite s k nan l)
  where
    go : (b : Bool) → (b ≡ false → list_all is_finite s ≡ false) → b ≡ true
    go true none = refl
    go false none = absurd (true≢false (sym all ∙ none refl))

module _ {X : Type 0} (v : X → Float) (n : ℕ) (t : List X) where
  pub short_none : block_fits n (length t) n n ≡ false → None ≡ first_not_finite n (map v t)
  unfolding first_not_finite
  short_none h = rw (length-map, h)

  -- in a whole matrix, what its columns give
  pub whole_place : {p : Option Place} → block_fits n (length t) n n ≡ true → p ≡ first_place (not_finite n (map v t)) n → p ≡ first_not_finite n (map v t)
  unfolding first_not_finite
  whole_place h e = rw (length-map, h) e

  pub finite_none : block_fits n (length t) n n ≡ true → list_all (λ x. is_finite (v x)) t ≡ true → None ≡ first_not_finite n (map v t)
  unfolding not_finite
  finite_none h all =
      let long : length (map v t) ≡ n * n = length-map t v ∙ (fits n (length t) n n h).size in
      let every : list_all is_finite (map v t) ≡ true = list_all-map is_finite v t ∙ all in
      whole_place h (sym (none_nowhere (not_finite n (map v t)) n (λ i j k l. ap not (finite_at (map v t) (place n i j) every (omega (arith, in_square n i j k l))))))
