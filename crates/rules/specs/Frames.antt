-- docs/RULES.md, rules 4.7 to 4.14, and refusals 6 to 11 (rules 6.6 to 6.11): pairs of task and deadline, sending times, control rows,
-- and what placing and checking need of a plan.
use Rattle.std.specs.Prelude.{Bool, true, false, ◌&&◌, eqb, leb, length}
use mathlib.Core.List.{List, [], ◌∷◌, map, foldr}
use Prim.Native.Nat.{ℕ, ◌+◌, ◌-◌, ◌*◌, max, compare, Ordering}
use Rattle.laws.specs.Res.{Res, ok, ◌>>◌, unless}
use Rattle.laws.specs.Lists.{keep, any, all, last_d, up_to}
use Rattle.laws.specs.Numbers.{divides, ceil, up, sum, greatest}
use Rattle.rules.specs.Limits.{most_frames}
use Rattle.rules.specs.Plan.{Bus, Plan, the_mode, the_task}
use Rattle.rules.specs.Records.{head_kind}
use Rattle.rules.specs.Traffic.{is_bus_task, bus_tasks, control_payload, sending_nodes, Message, traffic, has}

-- A pair of task and deadline with its release (rule 4.7): a frame, as long as no two share one.
pub record Pair : Type 0 where
  pub task : ℕ
  pub release : ℕ
  pub deadline : ℕ

-- the pair that a message would be alone
unfoldable pub pair_of : Message → Pair
pair_of m = record { task = m.task; release = m.release; deadline = m.deadline }

-- Rule 4.9: pairs stand by deadline, and by task within a deadline.
abbrev pub then_by : Ordering → Ordering → Ordering
then_by Ordering.lt o = Ordering.lt
then_by Ordering.eq o = o
then_by Ordering.gt o = Ordering.gt

unfoldable pub pair_order : Pair → Pair → Ordering
pair_order a b = then_by (compare a.deadline b.deadline) (compare a.task b.task)

-- Rule 4.7: a message goes into the pair of its task and deadline, which is released with the last of its messages.
unfoldable pub merged : Pair → Pair → Pair
merged m f = record { task = f.task; release = max m.release f.release; deadline = f.deadline }

abbrev pub by_order : Ordering → Pair → Pair → List Pair → List Pair → List Pair
by_order Ordering.lt m f fs in_rest = m ∷ f ∷ fs
by_order Ordering.eq m f fs in_rest = merged m f ∷ fs
by_order Ordering.gt m f fs in_rest = f ∷ in_rest

unfoldable pub with_pair : Pair → List Pair → List Pair
with_pair m [] = m ∷ []
with_pair m (f ∷ fs) = by_order (pair_order m f) m f fs (with_pair m fs)

-- Rule 4.7: each pair of task and deadline once, by number.
unfoldable pub pairs_of : List Message → List Pair
pairs_of ms = foldr with_pair [] (map pair_of ms)

-- the pairs of a plan
unfoldable pub pairs : Plan → List Pair
pairs p = pairs_of (traffic p).messages

-- the modes that have a message of the pair
unfoldable pub is_in : Pair → Message → Bool
is_in f m = eqb m.task f.task && eqb m.deadline f.deadline

abbrev pub mode_of_message : Message → ℕ
mode_of_message m = m.mode

unfoldable pub modes_of : List Message → Pair → List ℕ
modes_of ms f = map mode_of_message (keep (is_in f) ms)

-- Rule 4.8: a pair has the size of one message.
unfoldable pub pair_size : Plan → Pair → ℕ
pair_size p f = (the_task p f.task).size

-- What a frame with these pairs has to carry: in a mode the messages that the mode has of them; of a module as much as one of its modes
-- needs at most; and that of all modules together. Of one pair it is the pair's size.
unfoldable pub has_of : List Message → ℕ → Pair → Bool
has_of ms μ f = has ms μ f.task f.deadline

unfoldable pub bytes_in : Plan → List Message → List Pair → ℕ → ℕ
bytes_in p ms fs μ = sum (map (pair_size p) (keep (has_of ms μ) fs))

unfoldable pub is_mode_in : Plan → ℕ → ℕ → Bool
is_mode_in p m μ = eqb (the_mode p μ).home m

unfoldable pub block : Plan → List Message → List Pair → ℕ → ℕ
block p ms fs m = greatest (map (bytes_in p ms fs) (keep (is_mode_in p m) (up_to (length p.modes))))

unfoldable pub payload : Plan → List Message → List Pair → ℕ
payload p ms fs = sum (map (block p ms fs) (up_to (length p.modules)))

-- What is sent, as bits and as ticks: the bits as many as there are, the ticks rounded.
pub record Sending : Type 0 where
  pub bits : ℕ
  pub ticks : ℕ

-- Bits on the bus in ticks: bits × 1000 / kbit/s, rounded up twice, to a tick and to the resolution (reading 14).
unfoldable pub of_bits : Bus → ℕ → Sending
of_bits b bits = record { bits = bits; ticks = up b.resolution (ceil (bits * 1000) b.rate) }

-- Rule 4.10: s bytes, which are filled up to the least payload and have the overhead before them, each byte of as many bits as the bus says.
unfoldable pub on_bus : Bus → ℕ → Sending
on_bus b s = of_bits b (b.byte_bits * (b.overhead + max s b.least))

-- the sending time
unfoldable pub sending_time : Bus → ℕ → ℕ
sending_time b s = (on_bus b s).ticks

-- Rule 4.11: the gap, which is given in bits, and the gap time.
unfoldable pub gap_on_bus : Bus → Sending
gap_on_bus b = of_bits b b.gap

unfoldable pub gap_time : Bus → ℕ
gap_time b = (gap_on_bus b).ticks

-- Rule 5.1: where the rows of a cycle end at the latest: a gap before the next cycle begins.
unfoldable pub cycle_end : Bus → ℕ → ℕ
cycle_end b period = period - gap_time b

pub record ControlRow : Type 0 where
  pub node : ℕ
  pub start : ℕ
  pub stop : ℕ

-- Rule 4.13: control rows in order of their nodes, the first from 0 on, each other one a gap behind the stop of the one before.
unfoldable pub control_from : Plan → ℕ → List ℕ → List ControlRow
control_from p start [] = []
control_from p start (n ∷ ns) =
    let stop = start + sending_time p.bus (control_payload p n) in
    record { node = n; start = start; stop = stop } ∷ control_from p (stop + gap_time p.bus) ns

unfoldable pub control_rows : Plan → List ControlRow
control_rows p = control_from p 0 (sending_nodes p)

abbrev pub no_control_row : ControlRow
no_control_row = record { node = 0; start = 0; stop = 0 }

-- Rule 4.14: C, a gap behind the last control row's stop.
unfoldable pub control_end : Plan → ℕ
control_end p = (last_d (control_rows p) no_control_row).stop + gap_time p.bus

-- Refusal 6 (rule 6.6): some task is a bus task.
unfoldable pub some_bus_task : Plan → Bool
some_bus_task p = any (is_bus_task p) (up_to (length p.tasks))

-- Refusal 10 (rule 6.10): no message of a bus task and no control frame has more bytes than the largest payload; the bare sizes are
-- compared (reading 13).
unfoldable pub message_fits : Plan → ℕ → Bool
message_fits p t = leb (the_task p t).size p.bus.most

unfoldable pub control_fits : Plan → ℕ → Bool
control_fits p n = leb (control_payload p n) p.bus.most

unfoldable pub payloads_fit : Plan → Bool
payloads_fit p = all (message_fits p) (bus_tasks p) && all (control_fits p) (sending_nodes p)

-- What placing and checking need of a plan, and nothing else: the kind of the table's head, P, the gap time, the grid of starts (the
-- resolution), C, the end that no row may pass, the control rows, the pairs by number; how long a row takes that holds some pairs, and
-- which pairs may be in one row.
pub record Layout : Type 0 where
  pub head : ℕ
  pub period : ℕ
  pub gap : ℕ
  pub grid : ℕ
  pub floor : ℕ
  pub end : ℕ
  pub control : List ControlRow
  pub pairs : List Pair
  pub time : List Pair → ℕ
  pub together : List Pair → Bool

-- Rule 4.10, of a row: the sending time of what its pairs carry.
unfoldable pub row_time : Plan → List Message → List Pair → ℕ
row_time p ms fs = sending_time p.bus (payload p ms fs)

-- a row holds one pair
abbrev pub is_one : List Pair → Bool
is_one [] = false
is_one (f ∷ []) = true
is_one (f ∷ g ∷ fs) = false

unfoldable pub layout_of : Plan → Layout
layout_of p =
    let t = traffic p in
    record {
      head = head_kind p.consumers;
      period = t.period;
      gap = gap_time p.bus;
      grid = p.bus.resolution;
      floor = control_end p;
      end = cycle_end p.bus t.period;
      control = control_rows p;
      pairs = pairs_of t.messages;
      time = row_time p t.messages;
      together = is_one;
    }

-- Refusals 6 to 11, each at 0: there is a bus task; P divides G; the resolution divides P; not too many frames; no payload too
-- large; the control rows with their gap end within P.
unfoldable pub layout : Plan → Res Layout
layout p = do
  unless 6 0 (some_bus_task p)
  unless 7 0 (divides (traffic p).period (traffic p).grid)
  unless 8 0 (divides p.bus.resolution (traffic p).period)
  unless 9 0 (leb (length (pairs p)) most_frames)
  unless 10 0 (payloads_fit p)
  unless 11 0 (leb (control_end p) (traffic p).period)
  ok (layout_of p)
