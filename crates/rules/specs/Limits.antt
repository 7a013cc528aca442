-- docs/RULES.md, section 3: how many things of each kind there may be, and how large each number may become. Each limit stands here
-- once; the code has each as an associated constant of the type that it limits (rule 3.5).
use Rattle.std.specs.Prelude.{ℕ}

-- Rule 3.1: nodes, modules, modes, tasks, invocations, connections of a plan.
abbrev pub most_nodes : ℕ
most_nodes = 8

abbrev pub most_modules : ℕ
most_modules = 16

abbrev pub most_modes : ℕ
most_modes = 32

abbrev pub most_tasks : ℕ
most_tasks = 32

abbrev pub most_invocations : ℕ
most_invocations = 64

abbrev pub most_connections : ℕ
most_connections = 64

-- Rule 3.4: data frames (9), and the frame rows that are to be lent (19).
abbrev pub most_frames : ℕ
most_frames = 1024

-- Rules 17.7 and 18.5: bytes of a sheet.
abbrev pub longest_sheet : ℕ
longest_sheet = 262144

-- Rule 3.2, of the bus: kbit/s, overhead and payload in bytes, gap in bits, resolution in ticks.
abbrev pub fastest_bus : ℕ
fastest_bus = 100000

abbrev pub most_overhead : ℕ
most_overhead = 64

abbrev pub most_payload : ℕ
most_payload = 254

abbrev pub most_gap : ℕ
most_gap = 1000

abbrev pub coarsest : ℕ
coarsest = 1000

-- Rule 3.2, of the bus too: the bits that a byte takes; rule 4.10: how many these are where the plan does not say.
abbrev pub fewest_byte_bits : ℕ
fewest_byte_bits = 8

abbrev pub most_byte_bits : ℕ
most_byte_bits = 12

abbrev pub plain_byte_bits : ℕ
plain_byte_bits = 8

-- mode periods, switch periods and worst times in ticks
abbrev pub longest_time : ℕ
longest_time = 1000000

-- a message's size in bytes, and how often in its mode's period an invocation runs
abbrev pub largest_message : ℕ
largest_message = 8

abbrev pub most_rate : ℕ
most_rate = 65535
