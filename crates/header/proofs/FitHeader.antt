-- What a header without fault tells. Assumes nothing.
use Rattle.std.specs.Prelude.{Err, Ok}
use Rattle.refusal.specs.Refusal.{Checked, passed}
use Prim.Native.Nat.{ℕ, ◌+◌, ◌*◌, ◌≤◌}
use mathlib.Core.Path.{◌≡◌, refl}
use mathlib.Core.List.{List}
use native.Mathlib.Omega.{arith}
use borrow.Author.Tests.{eqb-true, ltb-false, not-false}
use lib.ListN.{length}
use Rattle.refusal.proofs.ChecksInTurn.{next_passed, refuse_passed}
use Rattle.header.specs.declared.Header.{Header}
use Rattle.header.specs.Record.{header_of, header_checks, record_checks, by_checks, examined}

pub record FitHeader (h : Header) (bytes : ℕ) : Type 0 where
  pub order : h.order ≤ 32
  pub whole : bytes ≡ 20 + 8 * (h.order * h.order)

passed_fits : (h : Header) (bytes : ℕ) → header_checks h bytes ≡ passed → FitHeader h bytes
unfolding header_checks
passed_fits h bytes e =
    let a = next_passed _ _ e in
    let b = next_passed _ _ a.1 in
    let c = next_passed _ _ b.1 in
    let d = next_passed _ _ c.1 in
    let f = next_passed _ _ d.1 in
    let size = eqb-true h.length (16 + 8 * (h.order * h.order)) (not-false _ (refuse_passed _ _ d.0)) in
    let least = ltb-false bytes (4 + h.length) (refuse_passed _ _ f.0) in
    let most = ltb-false (4 + h.length) bytes (refuse_passed _ _ f.1) in
    record { order = ltb-false 32 h.order (refuse_passed _ _ c.0); whole = omega arith }

pub fit_header : {h : Header} (b : List ℕ) → examined b ≡ Ok h → FitHeader h (length b)
unfolding examined by_checks record_checks
fit_header {h} b e = go (record_checks b) refl
  where
    go : (c : Checked) → record_checks b ≡ c → FitHeader h (length b)
    go (Ok u) f =
        let is : h ≡ header_of b = cc in
        rw is (passed_fits (header_of b) (length b) (next_passed _ _ f).1)
    go (Err r) f = absurd (let x : ◌≡◌ {A = ℕ} 0 1 = cc in omega arith)
