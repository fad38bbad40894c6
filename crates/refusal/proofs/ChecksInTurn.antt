-- Checks in turn: what follows where all have passed, and which refusals they may come to. Assumes nothing.
use Rattle.std.specs.Prelude.{Err, None, Ok, Option, Some, IsErrAnd}
use Rattle.refusal.specs.Refusal.{Checked, passed}
use mathlib.Core.Bool.{Bool, true, false}
use mathlib.Core.Path.{◌≡◌, refl, sym, ap, subst, ◌∙◌}
use Rattle.refusal.specs.declared.refusal.Place.{Place}
use Rattle.refusal.specs.declared.refusal.Refusal.{Refusal}
use Rattle.refusal.specs.Refusal.{refuse, refuse_at, ◌next◌}

abbrev IsRefused : Checked → Type 0
IsRefused (Ok u) = ⊥
IsRefused (Err r) = Unit {0}

pub refused_not_passed : (r : Refusal) → Err r ≡ passed → ⊥
refused_not_passed r e = subst IsRefused e tt

pub next_passed : (c d : Checked) → (c next d) ≡ passed → (c ≡ passed) × (d ≡ passed)
unfolding ◌next◌
next_passed (Ok u) d h = (refl, h)
next_passed (Err r) d h = absurd (refused_not_passed r h)

-- the last may be left out
pub next_before : (c d e : Checked) → (c next d next e) ≡ passed → (c next d) ≡ passed
unfolding ◌next◌
next_before (Ok u) d e h = (next_passed d e h).0
next_before (Err r) d e h = h

pub next_passes : {c d : Checked} → c ≡ passed → d ≡ passed → (c next d) ≡ passed
unfolding ◌next◌
next_passes h k = rw h k

-- the first that refuses decides
pub next_refused : {r : Refusal} (c d : Checked) → c ≡ Err r → (c next d) ≡ Err r
unfolding ◌next◌
next_refused c d h = rw h

-- In code: what each word comes to, and what is behind a check that has passed or refused. `grind` makes checks in turn of these.
pub refuse_fault : (r : Refusal) → refuse true r ≡ Err r
unfolding refuse
refuse_fault r = refl

pub refuse_none : (r : Refusal) → refuse false r ≡ passed
unfolding refuse
refuse_none r = refl

pub refuse_at_some : (f : Place → Refusal) (p : Place) → refuse_at f (Some p) ≡ Err (f p)
unfolding refuse_at
refuse_at_some f p = refl

pub refuse_at_none : (f : Place → Refusal) → refuse_at f None ≡ passed
unfolding refuse_at
refuse_at_none f = refl

pub next_ok : (u : Unit {0}) (d : Checked) → (Ok u next d) ≡ d
unfolding ◌next◌
next_ok u d = refl

pub next_err : (r : Refusal) (d : Checked) → (Err r next d) ≡ Err r
unfolding ◌next◌
next_err r d = refl

pub ruleset in_turn = (refuse_fault, refuse_none, refuse_at_some, refuse_at_none, next_ok, next_err)

-- grouped in another way
pub next_assoc : (a b c : Checked) → ((a next b) next c) ≡ (a next (b next c))
unfolding ◌next◌
next_assoc (Ok u) b c = refl
next_assoc (Err r) b c = refl

-- the same as `grind` finds it in a definition: a check behind those that code has made into one
pub next_back : (a b c : Checked) → (a next (b next c)) ≡ ((a next b) next c)
next_back a b c = sym (next_assoc a b c)

pub next_on : (c d : Checked) → c ≡ passed → (c next d) ≡ d
unfolding ◌next◌
next_on c d h = rw h

pub refuse_passed : (fault : Bool) (r : Refusal) → refuse fault r ≡ passed → fault ≡ false
unfolding refuse
refuse_passed true r h = absurd (refused_not_passed r h)
refuse_passed false r h = refl

pub refuse_refused : {s : Refusal} (fault : Bool) (r : Refusal) → refuse fault r ≡ Err s → fault ≡ true
unfolding refuse
refuse_refused true r h = refl
refuse_refused false r h = cc

pub refuse_at_passed : (r : Place → Refusal) (s : Option Place) → refuse_at r s ≡ passed → s ≡ None
unfolding refuse_at
refuse_at_passed r (Some p) h = absurd (refused_not_passed (r p) h)
refuse_at_passed r None h = refl

-- ---- P holds of every refusal that checks come to

abbrev pub Only : (Refusal → Type 0) → Checked → Type 0
Only P (Ok u) = Unit {0}
Only P (Err r) = P r

pub only_next : (P : Refusal → Type 0) (c d : Checked) → Only P c → Only P d → Only P (c next d)
unfolding ◌next◌
only_next P (Ok u) d h k = k
only_next P (Err r) d h k = h

pub only_refuse : (P : Refusal → Type 0) (fault : Bool) (r : Refusal) → P r → Only P (refuse fault r)
unfolding refuse
only_refuse P true r h = h
only_refuse P false r h = tt

pub only_at : (P : Refusal → Type 0) (f : Place → Refusal) (s : Option Place) → ((p : Place) → P (f p)) → Only P (refuse_at f s)
unfolding refuse_at
only_at P f (Some p) h = h p
only_at P f None h = tt

-- a refusal that the first never comes to is the second's
pub next_second : {r : Refusal} (P : Refusal → Type 0) (c d : Checked) → Only P c → (P r → ⊥) → (c next d) ≡ Err r → (c ≡ passed) × (d ≡ Err r)
unfolding ◌next◌
next_second P (Ok u) d h out e = (refl, e)
next_second {r} P (Err s) d h out e = let same : s ≡ r = cc in absurd (out (subst P same h))
