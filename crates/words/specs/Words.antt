-- A number of 64 bits in eight bytes of a list, the lowest first.
use Rattle.std.specs.Prelude.{ℕ, ◌+◌, ◌*◌, ◌/◌, ◌%◌, ◌^◌, List, get_or}

-- the number in the eight bytes from `at` on
unfoldable pub le64 : List ℕ → ℕ → ℕ
le64 s at =
    get_or s at 0
    + get_or s (at + 1) 0 * 256
    + get_or s (at + 2) 0 * 65536
    + get_or s (at + 3) 0 * 16777216
    + get_or s (at + 4) 0 * 4294967296
    + get_or s (at + 5) 0 * 1099511627776
    + get_or s (at + 6) 0 * 281474976710656
    + get_or s (at + 7) 0 * 72057594037927936

-- byte k of the number w
unfoldable pub byte_of : (w k : ℕ) → ℕ
byte_of w k = w / 256 ^ k % 256
