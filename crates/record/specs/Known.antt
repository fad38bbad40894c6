-- Worked cases, by evaluation: the sample of document 01 with its text, every refusal of the program, and what is told
-- first where two faults meet.
use Rattle.std.specs.Prelude.{◌≡◌, refl, ℕ, List, [], ◌∷◌, ◌++◌, map, take}
use Prim.Native.String.{String}
use Rattle.loops.specs.Table.{table}
use Rattle.matrix.specs.Vectors.{zeros}
use Rattle.decomposition.specs.Known.{opened_decomposition}
use Rattle.eigenvalues.specs.Known.{opened_readers}
use Rattle.words.specs.Words.{le64, byte_of}
use Rattle.words.specs.Floats.{floats_of}
use Rattle.header.specs.Record.{le16, le32, header_of, header_checks, record_checks, by_checks, examined}
use Rattle.record.specs.Text.{ascii, decimal_in, decimal, hexadecimal, refused_line, passes_line, entry_line}
use Rattle.record.specs.Text.{newline, eigenvalue_line, joined, matrix_lines, eigenvalue_lines}
use Rattle.record.specs.Answer.{eigenvalues_text, read_text, decomposed_text, decomposed, matrix_text, examined_text}
use Rattle.record.specs.Answer.{text_of}

-- w in k bytes
bytes : ℕ → ℕ → List ℕ
bytes k w = table k (byte_of w)

entries : List ℕ → List ℕ
entries [] = []
entries (w ∷ m) = bytes 8 w ++ entries m

-- length, kind, order, budget, tolerance, entries
recorded : ℕ → ℕ → ℕ → ℕ → ℕ → List ℕ → List ℕ
recorded length kind order budget tolerance m =
    bytes 4 length ++ bytes 2 kind ++ bytes 2 order ++ bytes 4 budget ++ bytes 8 tolerance ++ entries m

-- lines, one behind the other
lined : List String → List ℕ
lined [] = []
lined (s ∷ t) = ascii s ++ newline ++ lined t

-- every definition that a case computes with
unfoldable opened_record : Unit {0}
unfolding opened_decomposition opened_readers table le64 byte_of floats_of zeros bytes entries recorded lined
    ascii decimal_in decimal hexadecimal refused_line passes_line entry_line eigenvalue_line joined matrix_lines
    eigenvalue_lines
    le16 le32 header_of header_checks record_checks by_checks examined eigenvalues_text read_text decomposed_text
    decomposed matrix_text examined_text text_of
opened_record = tt

-- ---- the sample: order 2, budget 1, tolerance 0, entries 2 0 0 3

sample : List ℕ
sample = recorded 48 1 2 1 0 (0x4000000000000000 ∷ 0 ∷ 0 ∷ 0x4008000000000000 ∷ [])

sample_text : text_of sample ≡ lined (
    "order 2 passes 0"
    ∷ "t 0 0 4000000000000000"
    ∷ "t 1 0 0000000000000000"
    ∷ "t 0 1 0000000000000000"
    ∷ "t 1 1 4008000000000000"
    ∷ "q 0 0 3ff0000000000000"
    ∷ "q 1 0 0000000000000000"
    ∷ "q 0 1 0000000000000000"
    ∷ "q 1 1 3ff0000000000000"
    ∷ "e 0 4000000000000000 0000000000000000"
    ∷ "e 1 4008000000000000 0000000000000000"
    ∷ [])
unfolding opened_record sample
sample_text = refl

-- ---- refusals, each with the first of its faults

-- 1, 2^-52 and 2^700; and J, the block with rows (0 -1), (1 0)
unit : ℕ
unit = 0x3ff0000000000000

small : ℕ
small = 0x3cb0000000000000

large : ℕ
large = 0x6bb0000000000000

j : List ℕ
j = 0 ∷ unit ∷ 0xbff0000000000000 ∷ 0 ∷ []

cases : List (List ℕ)
cases =
    -- nothing, and a header that lacks its last byte
    []
    ∷ take 19 sample
    -- kind 2 and order 0; order 0 and another length; order 33 and another length
    ∷ recorded 48 2 0 1 0 []
    ∷ recorded 48 1 0 1 0 []
    ∷ recorded 48 1 33 1 0 []
    -- a length field that is right for order 3, over an input of order 2; a byte too few; a byte too many, and
    -- tolerance 1
    ∷ recorded 88 1 2 1 0 j
    ∷ take 51 sample
    ∷ (recorded 48 1 2 1 unit j ++ 0 ∷ [])
    -- tolerance 1 and budget 0; budget 0 and NaN; budget 1,000,001; NaN at row 0, column 1
    ∷ recorded 48 1 2 0 unit j
    ∷ recorded 48 1 2 0 0 (0 ∷ 0 ∷ 0x7ff0000000000001 ∷ 0 ∷ [])
    ∷ recorded 48 1 2 1000001 0 j
    ∷ recorded 48 1 2 1 0 (0 ∷ 0 ∷ 0x7ff0000000000001 ∷ 0 ∷ [])
    -- document 01's f at budget 1, and l
    ∷ recorded 144 1 4 1 small (0 ∷ unit ∷ 0 ∷ 0 ∷ 0xbff0000000000000 ∷ 0 ∷ 0 ∷ 0 ∷ 0 ∷ 0 ∷ 0 ∷ unit ∷ 0 ∷ 0
    ∷ 0xbff0000000000000 ∷ 0 ∷ [])
    ∷ recorded 48 1 2 1 small (0 ∷ large ∷ large ∷ 0 ∷ [])
    ∷ []

answers : List String
answers =
    "refused 12 0 0\n"
    ∷ "refused 12 0 0\n"
    ∷ "refused 13 0 0\n"
    ∷ "refused 1 0 0\n"
    ∷ "refused 2 0 0\n"
    ∷ "refused 14 0 0\n"
    ∷ "refused 12 0 0\n"
    ∷ "refused 14 0 0\n"
    ∷ "refused 4 0 0\n"
    ∷ "refused 5 0 0\n"
    ∷ "refused 5 0 0\n"
    ∷ "refused 6 0 1\n"
    ∷ "refused 7 0 0\n"
    ∷ "refused 8 0 0\n"
    ∷ []

known : map text_of cases ≡ map ascii answers
unfolding opened_record sample unit small large j cases answers
known = refl

-- ---- the complex reader's own refusal, which stands after Q

-- a block of two, rows (5e299 -1e300), (1e300 -5e299), whose discriminant is NaN
not_read : text_of (recorded 48 1 2 1 0 (0x7e27e43c8800759c ∷ 0x7e37e43c8800759c ∷ 0xfe37e43c8800759c
    ∷ 0xfe27e43c8800759c ∷ [])) ≡ lined (
    "order 2 passes 0"
    ∷ "t 0 0 7e27e43c8800759c"
    ∷ "t 1 0 7e37e43c8800759c"
    ∷ "t 0 1 fe37e43c8800759c"
    ∷ "t 1 1 fe27e43c8800759c"
    ∷ "q 0 0 3ff0000000000000"
    ∷ "q 1 0 0000000000000000"
    ∷ "q 0 1 0000000000000000"
    ∷ "q 1 1 3ff0000000000000"
    ∷ "eigenvalues refused 11 0 0"
    ∷ [])
unfolding opened_record
not_read = refl
