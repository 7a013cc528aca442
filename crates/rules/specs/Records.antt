-- docs/RULES.md, section 2: kinds, the lengths of their bodies, the order in which they stand, and a file read as records.
use Rattle.std.specs.Prelude.{Bool, true, false, cond, ◌&&◌, ◌||◌, List, [], ◌∷◌, eqb, leb, get_or, take, drop, ℕ, zero, suc, ◌+◌}
use Rattle.std.proofs.Math.Option.{Option, none, some}
use Rattle.laws.specs.Res.{Res, ok, refuse}
use Rattle.laws.specs.Numbers.{number}
use Rattle.rules.specs.Limits.{fastest_bus, most_overhead, most_payload, most_gap, coarsest, fewest_byte_bits, most_byte_bits, longest_time, largest_message, most_rate}

-- What a number of a body is: the name of a thing of a kind (u8); a number with a width and a range; a number with a width, free.
pub data Field : Type 0 where
  names : ℕ → Field
  ranges : ℕ → ℕ → ℕ → Field
  free : ℕ → Field

-- how many bytes it takes
abbrev pub width : Field → ℕ
width (names kind) = 1
width (ranges wide low high) = wide
width (free wide) = wide

-- The numbers that both kinds of bus begin with, and what follows them.
abbrev pub bus_then : List Field → List Field
bus_then fs =
    ranges 4 1 fastest_bus ∷ ranges 2 0 most_overhead ∷ ranges 2 0 most_payload ∷ ranges 2 1 most_payload ∷ ranges 2 0 most_gap
    ∷ ranges 4 1 coarsest ∷ fs

-- The numbers of a table's head, of either edition: P, and how many control rows and data rows there are.
abbrev pub head_fields : List Field
head_fields = free 4 ∷ free 1 ∷ free 2 ∷ []

-- Rule 2.4: for each kind 0 to 20 the numbers of its body, or that the kind is unknown. Ranges are those of rule 3.2; the number
-- of nodes has none here, since its range is refusal 2's (reading 7).
unfoldable pub kinds : List (Option (List Field))
kinds =
    some []  -- 0 end
    ∷ some (bus_then [])  -- 1 bus
    ∷ some (free 1 ∷ [])  -- 2 number of nodes
    ∷ some (names 2 ∷ [])  -- 3 module
    ∷ some (names 3 ∷ ranges 4 1 longest_time ∷ ranges 4 1 longest_time ∷ [])  -- 4 mode
    ∷ some (names 3 ∷ ranges 1 1 largest_message ∷ ranges 4 1 longest_time ∷ [])  -- 5 task
    ∷ some (names 4 ∷ names 5 ∷ ranges 2 1 most_rate ∷ [])  -- 6 invocation
    ∷ some (names 5 ∷ names 5 ∷ [])  -- 7 connection
    ∷ none
    ∷ some (bus_then (ranges 1 fewest_byte_bits most_byte_bits ∷ []))  -- 9 bus with the bits of a byte
    ∷ none
    ∷ none
    ∷ none
    ∷ none
    ∷ none
    ∷ none
    ∷ some head_fields  -- 16 table
    ∷ some (free 1 ∷ free 4 ∷ free 4 ∷ [])  -- 17 control row
    ∷ some (free 1 ∷ free 4 ∷ free 4 ∷ free 4 ∷ [])  -- 18 data row
    ∷ none
    ∷ some head_fields  -- 20 table of the consumer edition
    ∷ []

-- a kind is known if the table has an entry for it
abbrev pub is_known : Option (List Field) → Bool
is_known none = false
is_known (some fs) = true

unfoldable pub known : ℕ → Bool
known kind = is_known (get_or kinds kind none)

abbrev pub or_none : Option (List Field) → List Field
or_none none = []
or_none (some fs) = fs

-- the numbers of a kind's body; none where it is unknown
unfoldable pub fields : ℕ → List Field
fields kind = or_none (get_or kinds kind none)

-- Rule 2.2: how long a body is follows from its kind.
abbrev pub widths : List Field → ℕ
widths [] = 0
widths (f ∷ fs) = width f + widths fs

unfoldable pub body_length : ℕ → ℕ
body_length kind = widths (fields kind)

-- the two kinds of bus
unfoldable pub is_bus : ℕ → Bool
is_bus kind = eqb kind 1 || eqb kind 9

-- Rule 2.5: whether a kind may stand behind another in a plan. At the front, which is written 0 here, only a bus may stand;
-- behind the bus the nodes; then kinds from 3 to 7, none below the one before; the end behind any of these and the nodes.
unfoldable pub plan_follows : ℕ → ℕ → Bool
plan_follows previous kind =
    cond (eqb previous 0) (is_bus kind)
    (cond (is_bus previous) (eqb kind 2) (eqb kind 0 || (leb 3 kind && (leb previous kind && leb kind 7))))

-- Rule 21.1: the kinds of a table's head: 16, and 20 in the consumer edition.
unfoldable pub head_kind : Bool → ℕ
head_kind consumers = cond consumers 20 16

unfoldable pub is_head : ℕ → Bool
is_head kind = eqb kind (head_kind false) || eqb kind (head_kind true)

-- Rule 2.6: the same in a table: its head, control rows, data rows, the end.
unfoldable pub table_follows : ℕ → ℕ → Bool
table_follows previous kind =
    cond (eqb previous 0) (is_head kind)
    (eqb kind 0 || (leb 17 kind && ((is_head previous || leb previous kind) && leb kind 18)))

-- A record: its kind and the numbers of its body.
pub record Rec : Type 0 where
  pub kind : ℕ
  pub numbers : List ℕ

-- Rule 2.3: the numbers that a body's bytes stand for, the least significant byte of each first.
abbrev pub decoded : List Field → List ℕ → List ℕ
decoded [] body = []
decoded (f ∷ fs) body = number (take (width f) body) ∷ decoded fs (drop (width f) body)

unfoldable pub record_of : ℕ → List ℕ → Rec
record_of kind behind = record { kind = kind; numbers = decoded (fields kind) behind }

module _ (follows : ℕ → ℕ → Bool) (refusal : ℕ) where
  -- Rule 2.7: behind the end record the file has no byte more; otherwise the place is just behind it (reading 1).
  abbrev pub ended : ℕ → List ℕ → Res (List Rec)
  ended at [] = ok []
  ended at (b ∷ bs) = refuse refusal at

  abbrev pub before : Rec → Res (List Rec) → Res (List Rec)
  before r (ok rs) = ok (r ∷ rs)
  before r (refuse n p) = refuse n p

  -- The records from the place `at` on, of which `inside` bytes still belong to the body of the record before. Rules 6.1 and 7.20:
  -- the place of a refusal is a wrong record's offset, or the file's length where it is cut; a wrong kind is seen before its body
  -- is (readings 2 and 3). The end record is not listed.
  unfoldable pub walk : ℕ → ℕ → ℕ → List ℕ → Res (List Rec)
  walk previous inside at [] = refuse refusal at
  walk previous (suc inside) at (b ∷ bs) = walk previous inside (suc at) bs
  walk previous zero at (kind ∷ bs) =
      elim (known kind && follows previous kind) [
        | true ↦ elim (eqb kind 0) [
          | true ↦ ended (suc at) bs
          | false ↦ before (record_of kind bs) (walk kind (body_length kind) (suc at) bs)
        ]
        | false ↦ refuse refusal at
      ]

  -- Rules 2.1 and 2.8: a whole file as its records; a record's number is its place in this list.
  unfoldable pub records : List ℕ → Res (List Rec)
  records file = walk 0 0 0 file
