-- The tests of refusals 6 and 10 on tables by number, and the time of a message.
use Rattle.std.specs.Prelude.{Bool, true, false, cond, List, leb, get_or, ℕ}
use Rattle.rules.specs.Plan.{Plan, the_task}
use Rattle.rules.specs.Frames.{sending_time}

-- the mark of a number
unfoldable pub flag_at : List Bool → ℕ → Bool
flag_at flags t = get_or flags t false

-- the message of a task that is marked fits the largest payload
unfoldable pub message_keeps : List Bool → Plan → ℕ → Bool
message_keeps flags p t = cond (flag_at flags t) (leb (the_task p t).size p.bus.most) true

-- the control payload of a node fits
unfoldable pub payload_keeps : List ℕ → ℕ → ℕ → Bool
payload_keeps payloads most n = leb (get_or payloads n 0) most

-- the sending time of a task's message
unfoldable pub task_time : Plan → ℕ → ℕ
task_time p t = sending_time p.bus (the_task p t).size
