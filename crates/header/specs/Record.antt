-- A record: length (4 bytes: how many bytes follow), kind (2), order (2), budget (4), tolerance (8, the pattern of a
-- float), then the entries, column by column, 8 bytes each; the lowest byte of each number first. And what is checked
-- of it before anything else, in document 01's order.
use Rattle.refusal.specs.Refusal.{Checked}
use Rattle.refusal.specs.declared.refusal.Refusal.{Refusal}
use Rattle.std.specs.Prelude.{ℕ, ◌+◌, ◌*◌, not, List, eqb, ltb, length, get_or, Err, Ok, Result}
use Rattle.refusal.specs.declared.refusal.Refusal.TheVariants.{OrderZero, OrderTooLarge, InputCutShort, UnknownKind}
use Rattle.refusal.specs.declared.refusal.Refusal.TheVariants.{InputLengthWrong}
use Rattle.refusal.specs.Refusal.{refuse, ◌next◌}
use Rattle.words.specs.Words.{le64}
use Rattle.header.specs.declared.Header.{Header}

-- the number in two, and in four bytes from `at` on
unfoldable pub le16 : List ℕ → ℕ → ℕ
le16 s at = get_or s at 0 + get_or s (at + 1) 0 * 256

unfoldable pub le32 : List ℕ → ℕ → ℕ
le32 s at = le16 s at + le16 s (at + 2) * 65536

unfoldable pub header_of : List ℕ → Header
header_of b = record { length = le32 b 0; kind = le16 b 4; order = le16 b 6; budget = le32 b 8; tolerance = le64 b 12 }

-- of an input of so many bytes
unfoldable pub header_checks : Header → ℕ → Checked
header_checks h bytes =
    refuse (not (eqb h.kind 1)) UnknownKind
    next refuse (eqb h.order 0) OrderZero
    next refuse (ltb 32 h.order) OrderTooLarge
    next refuse (not (eqb h.length (16 + 8 * (h.order * h.order)))) InputLengthWrong
    next refuse (ltb bytes (4 + h.length)) InputCutShort
    next refuse (ltb (4 + h.length) bytes) InputLengthWrong

unfoldable pub record_checks : List ℕ → Checked
record_checks b = refuse (ltb (length b) 20) InputCutShort next header_checks (header_of b) (length b)

-- what is known of a header by its checks
unfoldable pub by_checks : Checked → Header → Result Header Refusal
by_checks (Ok u) h = Ok h
by_checks (Err r) h = Err r

unfoldable pub examined : List ℕ → Result Header Refusal
examined b = by_checks (record_checks b) (header_of b)
