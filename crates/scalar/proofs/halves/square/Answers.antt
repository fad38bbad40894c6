-- `scalar::halves::square` meets its contract: the halves' products are within a word (`halves`), and put together they are the square
-- (`squared`). Assumes nothing.
use Rattle.std.proofs.Common.{ℕ, ◌+◌, ◌*◌, ◌/◌, ◌%◌, ◌^◌, ap, ◌∙◌, div-add-mod', arith}
use Rattle.scalar.proofs.halves.Laws.{Halves, halves, squared}
use Rattle.scalar.proofs.halves.square.Goals.{Start}
use Rattle.scalar.proofs.halves.square.Goals as goal

parts : (c : Start) → Halves (c.args.r / 2 ^ 27) (c.args.r % 2 ^ 27)
parts c = halves _ c.requires

pub returns : goal.returns
returns c =
    let r = c.args.r in
    record {
      value = c.plus.ensures.value
          ∙ ap (λ (v : ℕ). v + r / 2 ^ 27 * (r / 2 ^ 27) % 1024 * 2 ^ 54) c.plus-u.ensures.value
          ∙ squared (r / 2 ^ 27) (r % 2 ^ 27)
          ∙ ap (λ (v : ℕ). v * v) (div-add-mod' r (2 ^ 27));
      high = omega (arith, parts (goal.at.returns c).Start, c.plus-u.ensures.high, c.plus.ensures.high);
    }

pub overflow_mul-s : goal.overflow_mul-s
overflow_mul-s c = omega (arith, parts c)

pub overflow_mul-m : goal.overflow_mul-m
overflow_mul-m c = omega (arith, parts c)

pub overflow_add-t : goal.overflow_add-t
overflow_add-t c = omega (arith, parts c)

pub overflow_mul-c : goal.overflow_mul-c
overflow_mul-c c = omega (arith, parts c)

pub plus-u-requires : goal.plus-u-requires
plus-u-requires c = omega (arith, parts c)

pub plus-requires : goal.plus-requires
plus-requires c = omega (arith, parts (goal.at.plus-requires c).Start, c.plus-u.ensures.high)
