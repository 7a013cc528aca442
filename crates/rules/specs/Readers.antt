-- docs/RULES.md, rules 21.8 and 21.9: the messages that are kept, in a second form: by the periods with which a task's results are read. That
-- it is the first form's: `proofs/Needed`.
use Rattle.std.specs.Prelude.{Bool, cond, not, ◌&&◌, List, [], ◌∷◌, map, eqb, ltb, ℕ, ◌+◌}
use Rattle.laws.specs.Lists.{keep, any, joined}
use Rattle.laws.specs.Numbers.{up}
use Rattle.rules.specs.Plan.{Invocation, Connection, Plan, period_of}
use Rattle.rules.specs.Traffic.{can_be_thinned, Run, Message, messages_of}

-- Rule 21.8: the message of a run of period T with deadline d is read with period U if a multiple of U lies in d to d + T - 1.
unfoldable pub is_read : ℕ → ℕ → ℕ → Bool
is_read period d u = ltb (up u d) (d + period)

unfoldable pub is_read_by : List ℕ → ℕ → ℕ → Bool
is_read_by us period d = any (is_read period d) us

-- With which periods a task's results are read: those of its consumers' invocations where all its connections can be thinned. Else every
-- message is needed, as if each tick were read; so it is in the other edition.
unfoldable pub needs_all : Plan → ℕ → Connection → Bool
needs_all p t c = eqb c.producer t && not (can_be_thinned p c)

unfoldable pub leads_to : ℕ → ℕ → Connection → Bool
leads_to t u c = eqb c.producer t && eqb c.consumer u

unfoldable pub is_reader : Plan → ℕ → Invocation → Bool
is_reader p t i = any (leads_to t i.task) p.connections

unfoldable pub is_thinned : Plan → ℕ → Bool
is_thinned p t = p.consumers && not (any (needs_all p t) p.connections)

unfoldable pub readers_of : Plan → ℕ → List ℕ
readers_of p t = cond (is_thinned p t) (map (period_of p) (keep (is_reader p t) p.invocations)) (1 ∷ [])

-- The messages of runs that are read, by the readers of each task.
unfoldable pub is_read_message : List ℕ → ℕ → Message → Bool
is_read_message us period m = is_read_by us period m.deadline

unfoldable pub read_messages_of : (ℕ → List ℕ) → ℕ → Run → List Message
read_messages_of readers cycle r = keep (is_read_message (readers r.task) r.period) (messages_of cycle r)

unfoldable pub read_messages : (ℕ → List ℕ) → ℕ → List Run → List Message
read_messages readers cycle rs = joined (map (read_messages_of readers cycle) rs)
