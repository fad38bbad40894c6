-- What one read comes to, by what is tested of its answer. Assumes nothing.
use Rattle.std.proofs.Common.{◌≡◌, refl, sym, ap, ◌∙◌, ℕ, zero, suc, ◌+◌, ◌<◌, ◌≤◌, min, arith}
use Rattle.std.specs.Prelude.{◌≢◌, Ok, Err, Some, None}
use Rattle.std.specs.declared.result.Result.{Result}
use Rattle.std.specs.declared.io.Error.{Error}
use Rattle.reading.specs.Reading.{after_read}

module _ (done room : ℕ) where
  pub broken : (e : Error) → Err e ≡ after_read done room (Err e)
  unfolding after_read
  broken e = refl

  pub ended : (n : ℕ) → n ≡ 0 → Ok None ≡ after_read done room (Ok n)
  unfolding after_read
  ended zero e = refl
  ended (suc n) e = absurd (omega arith)

  pub some_came : (n : ℕ) → n ≢ 0 → after_read done room (Ok n) ≡ Ok (Some (done + min n room))
  unfolding after_read
  some_came zero h = absurd (h refl)
  some_came (suc n) h = refl

  pub all_came : (n : ℕ) → n ≢ 0 → room ≤ n → Ok (Some (done + room)) ≡ after_read done room (Ok n)
  all_came n e h = let m : room ≡ min n room = omega arith in ap (λ k. Ok (Some (done + k))) m ∙ sym (some_came n e)

-- a read that brings more brings some, and no more than there is room for
pub record Came (done room more : ℕ) : Type 0 where
  pub some : done < more
  pub most : more ≤ done + room

pub came : (done room : ℕ) (z : Result ℕ Error) (more : ℕ) → 0 < room → Ok (Some more) ≡ after_read done room z → Came done room more
unfolding after_read
came done room (Err n) more h e = absurd (cc)
came done room (Ok zero) more h e = absurd (cc)
came done room (Ok (suc n)) more h e = let x : more ≡ done + min (suc n) room = cc in record { some = omega arith; most = omega arith }
