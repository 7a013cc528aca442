-- The rules' tests over what the code has at hand: counts as a list by kind, a mode and a task instead of their numbers.
use Rattle.std.specs.Prelude.{Bool, ◌&&◌, List, leb, get_or, ℕ, ◌+◌}
use Rattle.laws.specs.Res.{Res}
use Rattle.rules.specs.Records.{Rec}
use Rattle.rules.specs.Limits.{fastest_bus, most_overhead, most_payload, most_gap, coarsest, fewest_byte_bits, most_byte_bits}
use Rattle.rules.specs.Plan.{Bus, nth, least_counts, most_counts, names_are_there, numbers_are_within}
use Rattle.planrules.specs.declared.numbers.Firsts.{Firsts}
use Rattle.planfits.specs.Scans.{first_bad_of}
use Rattle.places.specs.Spot.{spot_of}

-- Refusal 2: the count of kind 2 + k, the nodes included, is within its range.
unfoldable pub counts_fit : List ℕ → ℕ → Bool
counts_fit counts k = leb (nth least_counts k) (nth counts (2 + k)) && leb (nth counts (2 + k)) (nth most_counts k)

-- a number is within a range
abbrev is_between : ℕ → ℕ → ℕ → Bool
is_between low high x = leb low x && leb x high

-- counts by kind
abbrev pub listed : List ℕ → ℕ → ℕ
listed counts kind = get_or counts kind 0

-- Refusal 4 of a bus, whichever kind it was read from: every number is within its range, and the payloads are in order.
unfoldable pub bus_is_within : Bus → Bool
bus_is_within b =
    (is_between 1 fastest_bus b.rate
    && (is_between 0 most_overhead b.overhead
    && (is_between 0 most_payload b.least
    && (is_between 1 most_payload b.most
    && (is_between 0 most_gap b.gap
    && (is_between 1 coarsest b.resolution && is_between fewest_byte_bits most_byte_bits b.byte_bits))))))
    && leb b.least b.most

-- The first of a file's records that fails refusal 3's test, and the first that fails refusal 4's.
abbrev pub firsts_of : List ℕ → Res (List Rec) → Firsts
firsts_of counts file =
    record {
      named = spot_of (first_bad_of (names_are_there (listed counts)) file);
      ranged = spot_of (first_bad_of numbers_are_within file);
    }
