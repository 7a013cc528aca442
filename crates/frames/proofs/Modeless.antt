-- The modes of the runs do not matter to their frames.
use mathlib.Core.Path.{◌≡◌, refl, sym, ap, ap₂, ◌∙◌}
use mathlib.Core.Bool.{Bool, true, false}
use mathlib.Core.List.{List, [], ◌∷◌, ◌++◌, map, foldr}
use Prim.Native.Nat.{ℕ, zero, suc, ◌/◌}
use Rattle.laws.specs.Lists.{cons_if, keep, all, tab}
use Rattle.laws.proofs.Lists as lists
use Rattle.laws.proofs.Lists.{map-append, map-tab}
use Rattle.laws.proofs.Members.{all_map}
use Rattle.rules.specs.Traffic.{Run, Message, message, messages_of}
use Rattle.rules.specs.Readers.{is_read_by, is_read_message, read_messages_of, read_messages}
use Rattle.rules.specs.Frames.{Pair, pair_of, with_pair, pairs_of}
use Rattle.bus.specs.declared.runs.Runs.{Runs}
use Rattle.bus.specs.Runs as bus
use Rattle.frames.specs.Walk.{run_at, runs_in, is_fair, AreRead}

-- the run with mode 0 in the place of its own
abbrev modeless : Run → Run
modeless r = record { mode = 0; task = r.task; period = r.period; worst = r.worst }

kept_alike : (q : ℕ → Bool) (f g : ℕ → Message) → ((k : ℕ) → pair_of (f k) ≡ pair_of (g k)) → (lo n : ℕ)
    → map pair_of (keep (λ m. q m.deadline) (tab f lo n)) ≡ map pair_of (keep (λ m. q m.deadline) (tab g lo n))
unfolding pair_of
kept_alike q f g h lo zero = refl
kept_alike q f g h lo (suc n) =
    let d : (f lo).deadline ≡ (g lo).deadline = ap (λ (p : Pair). p.deadline) (h lo) in
    ap (λ (b : Bool). map pair_of (cons_if b (f lo) (keep (λ m. q m.deadline) (tab f (suc lo) n)))) (ap q d)
    ∙ one (q (g lo).deadline) _ _ (kept_alike q f g h (suc lo) n)
  where
    one : (b : Bool) (ms ns : List Message) → map pair_of ms ≡ map pair_of ns → map pair_of (cons_if b (f lo) ms) ≡ map pair_of (cons_if b (g lo) ns)
    one true ms ns e = ap₂ (λ (p : Pair) (l : List Pair). p ∷ l) (h lo) e
    one false ms ns e = e

module _ (readers : ℕ → List ℕ) (period : ℕ) where
  messages_modeless : (rs : List Run) → map pair_of (read_messages readers period (map modeless rs)) ≡ map pair_of (read_messages readers period rs)
  unfolding read_messages read_messages_of is_read_message messages_of message pair_of
  messages_modeless [] = refl
  messages_modeless (r ∷ rs) =
      map-append pair_of (read_messages_of readers period (modeless r)) (read_messages readers period (map modeless rs))
      ∙ ap₂ (λ (a b : List Pair). a ++ b)
      (kept_alike (is_read_by (readers r.task) r.period) (message (modeless r)) (message r) (λ k. refl) 1 (period / r.period))
      (messages_modeless rs)
      ∙ sym (map-append pair_of (read_messages_of readers period r) (read_messages readers period rs))

  pairs_modeless : (rs : List Run) → pairs_of (read_messages readers period (map modeless rs)) ≡ pairs_of (read_messages readers period rs)
  unfolding pairs_of
  pairs_modeless rs = ap (λ (fs : List Pair). foldr with_pair [] fs) (messages_modeless rs)

module _ (runs : Runs) where
  abbrev pub lent : List Run
  lent = runs_in runs.tasks runs.periods runs.worsts runs.count

  lent_are : lent ≡ map modeless (bus.runs_seen runs)
  unfolding runs_in run_at bus.runs_seen bus.run_at
  lent_are = sym (map-tab (bus.run_at runs) modeless 0 runs.count)

  pub lent-fair : (period : ℕ) → all (is_fair period) (bus.runs_seen runs) ≡ true → all (is_fair period) lent ≡ true
  unfolding is_fair
  lent-fair period h = rw lent_are (lists.all_map modeless (is_fair period) (bus.runs_seen runs) ∙ h)

  pub lent-read : (readers : ℕ → List ℕ) (period : ℕ) → AreRead readers period (bus.runs_seen runs) → AreRead readers period lent
  lent-read readers period h = rw lent_are (all_map modeless h)

  pub lent-pairs : (readers : ℕ → List ℕ) (period : ℕ) → pairs_of (read_messages readers period lent) ≡ pairs_of (read_messages readers period (bus.runs_seen runs))
  lent-pairs readers period = rw lent_are (pairs_modeless readers period (bus.runs_seen runs))
