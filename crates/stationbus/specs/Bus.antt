-- The frames of a tick on arrays, steps (b) and (f): the mode bytes that land and that are sent, the pairs that have a time, and what the
-- data frames take. That these are the rules of the played station is a law of the crate `station`.
use Rattle.std.specs.Prelude.{Bool, false, cond, not, ◌&&◌, List, eqb, get_or, ℕ, ◌/◌, ◌%◌}
use Rattle.std.proofs.Math.Option.{Option, none, some}
use Rattle.laws.specs.Lists.{any, up_to}
use Rattle.places.specs.Bits.{bit_at, bits_of}
use Rattle.places.specs.Flags.{is_set, flag_at, flag_byte}
use Rattle.rules.specs.Limits.{most_modules, most_modes}

abbrev pub number_at : List ℕ → ℕ → ℕ
number_at l k = get_or l k 0

abbrev pub truth_at : List Bool → ℕ → Bool
truth_at l k = get_or l k false

-- a row has not this time
abbrev pub has_other : List ℕ → ℕ → ℕ → Bool
has_other times now r = not (eqb (get_or times r 0) now)

-- (b) the mode bytes held: of node j / most_modules and module j % most_modules, where a control frame of a node stops
abbrev pub is_byte_at : List ℕ → List ℕ → ℕ → ℕ → Bool
is_byte_at sends nodes sender m = flag_at sends m && eqb (get_or nodes m 0) sender

abbrev pub held_by : List ℕ → List ℕ → List ℕ → ℕ → ℕ → ℕ → ℕ
held_by sends nodes bytes sender j old =
    cond (is_byte_at sends nodes sender (j % most_modules) && not (eqb (get_or nodes (j % most_modules) 0) (j / most_modules))) (get_or bytes (j % most_modules) 0) old

abbrev pub held_at : List ℕ → List ℕ → List ℕ → ℕ → List ℕ → ℕ → ℕ
held_at sends nodes bytes sender held j = held_by sends nodes bytes sender j (get_or held j 0)

abbrev pub held_rule : List ℕ → List ℕ → List ℕ → List ℕ → List ℕ → Option ℕ → ℕ → ℕ
held_rule sends nodes bytes control_nodes held none j = get_or held j 0
held_rule sends nodes bytes control_nodes held (some r) j = held_at sends nodes bytes (get_or control_nodes r 0) held j

-- (f) of the modes and out-boxes after (d)
abbrev pub byte_from_rule : List ℕ → List ℕ → (ℕ → ℕ) → ℕ → List ℕ → ℕ → ℕ
byte_from_rule sends nodes modes sender bytes m = cond (is_byte_at sends nodes sender m) (modes m) (get_or bytes m 0)

abbrev pub mode_byte_rule : List ℕ → List ℕ → (ℕ → ℕ) → List ℕ → List ℕ → Option ℕ → ℕ → ℕ
mode_byte_rule sends nodes modes control_nodes bytes none m = get_or bytes m 0
mode_byte_rule sends nodes modes control_nodes bytes (some r) m = byte_from_rule sends nodes modes (get_or control_nodes r 0) bytes m

-- a pair of the task has this time; some pair of it has
abbrev pub is_pair_at : List ℕ → List ℕ → ℕ → ℕ → ℕ → Bool
is_pair_at pair_tasks times time t q = eqb (get_or pair_tasks q 0) t && eqb (get_or times q 0) time

abbrev pub some_pair_at : List ℕ → List ℕ → ℕ → ℕ → ℕ → Bool
some_pair_at pair_tasks times pairs time t = any (is_pair_at pair_tasks times time t) (up_to pairs)

-- such a pair has a message in this mode; the modes that have one, as the bits of a word
abbrev pub is_message_at : List ℕ → List ℕ → List ℕ → ℕ → ℕ → ℕ → ℕ → Bool
is_message_at pair_tasks times pair_modes time t μ q = is_pair_at pair_tasks times time t q && bit_at (get_or pair_modes q 0) μ

abbrev pub some_message_at : List ℕ → List ℕ → List ℕ → ℕ → ℕ → ℕ → ℕ → Bool
some_message_at pair_tasks times pair_modes pairs time t μ = any (is_message_at pair_tasks times pair_modes time t μ) (up_to pairs)

unfoldable pub modes_at : List ℕ → List ℕ → List ℕ → ℕ → ℕ → ℕ → ℕ
modes_at pair_tasks times pair_modes pairs time t = bits_of (some_message_at pair_tasks times pair_modes pairs time t) most_modes

-- (f) of the data frames: where a pair of the task starts, whether there is a value of it, by the modes and out-boxes after (d); where none
-- starts it stays
abbrev pub full_by : ℕ → Bool → ℕ → ℕ → Bool
full_by full starts modes μ = cond starts (bit_at modes μ) (is_set full)

abbrev pub full_still : List ℕ → ℕ → ℕ
full_still full t = flag_byte (flag_at full t)

abbrev pub full_from : (ℕ → Bool) → (ℕ → ℕ) → List ℕ → (ℕ → ℕ) → List ℕ → ℕ → ℕ
full_from starting sent homes modes full t = flag_byte (full_by (get_or full t 0) (starting t) (sent t) (modes (get_or homes t 0)))

abbrev pub full_rule : List ℕ → List ℕ → List ℕ → ℕ → ℕ → List ℕ → (ℕ → ℕ) → List ℕ → Option ℕ → ℕ → ℕ
full_rule pair_tasks pair_starts pair_modes pairs time homes modes full none t = full_still full t
full_rule pair_tasks pair_starts pair_modes pairs time homes modes full (some q) t =
    full_from (some_pair_at pair_tasks pair_starts pairs time) (modes_at pair_tasks pair_starts pair_modes pairs time) homes modes full t

abbrev pub load_from : (ℕ → Bool) → (ℕ → ℕ) → List ℕ → ℕ → ℕ
load_from starting out loads t = cond (starting t) (out t) (get_or loads t 0)

abbrev pub load_rule : List ℕ → List ℕ → ℕ → ℕ → (ℕ → ℕ) → List ℕ → Option ℕ → ℕ → ℕ
load_rule pair_tasks pair_starts pairs time out loads none t = get_or loads t 0
load_rule pair_tasks pair_starts pairs time out loads (some q) t = load_from (some_pair_at pair_tasks pair_starts pairs time) out loads t
