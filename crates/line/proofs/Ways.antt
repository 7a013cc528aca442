-- The ways out of laying a plan out.
use mathlib.Core.Path.{◌≡◌, refl, sym, ap, ap₂, ◌∙◌}
use mathlib.Core.Bool.{Bool, true, false, cond, ◌&&◌}
use mathlib.Core.List.{List}
use native.Mathlib.Nat.{zero-add}
use native.Mathlib.Omega.{arith}
use lib.Dec.{leb, ltb}
use lib.ListN.{length, replicate}
use borrow.Author.Tests.{le-leb, lt-leb, ltb-false}
use Prim.Native.Nat.{ℕ, zero, suc, ◌+◌, ◌≤◌, ◌<◌}
use Rattle.laws.specs.Res.{Res, ok, refuse}
use Rattle.laws.specs.Lists.{all, up_to}
use Rattle.laws.proofs.Res.{refuse≢ok, refuse-number, refuse-place}
use Rattle.laws.proofs.Lists.{all_keep, all-up_to_more, get_or-tab}
use Rattle.rules.specs.Limits.{most_frames}
use Rattle.rules.specs.Plan.{Plan}
use Rattle.rules.specs.Traffic.{is_bus_task, bus_tasks, control_payload, is_sending_node, sending_nodes, traffic}
use Rattle.rules.specs.Frames.{layout, layout_of, message_fits, control_fits, payloads_fit, control_end}
use Rattle.answers.specs.declared.Refusal.{Refusal}
use Rattle.answers.specs.Refusals.{said}
use Rattle.bus.specs.Senders.{by_number}
use Rattle.std.specs.Prelude.{Result, Ok, Err}
use Rattle.line.specs.declared.Line.{Line}
use Rattle.line.specs.Line.{no_line, line_of, line_in}
use Rattle.payloads.specs.Tests.{flag_at, message_keeps, payload_keeps}
use Rattle.line.specs.Laying.{Closes, Lays, verdict, laid, closing}

pub verdict-refused : (n k : ℕ) (rule : Res Plan) → verdict rule ≡ refuse n k → rule ≡ refuse n k
verdict-refused n k (ok p) e = refuse≢ok (sym e)
verdict-refused n k (refuse m j) e = rw (refuse-number e, refuse-place e)

module _ (x : Refusal) (r : Result Line Refusal) (e : r ≡ Err x) where
  pub closes_refused : (p : Plan) → layout p ≡ said x → Closes r (laid p)
  unfolding laid
  closes_refused p q = record { answered = rw (e, q); left = rw (e, q) }

  -- where a plan is refused, the arrays of frames are zeros
  module _ {tasks releases deadlines : List ℕ} (z : (tasks ≡ replicate most_frames 0) × (releases ≡ replicate most_frames 0) × (deadlines ≡ replicate most_frames 0)) where
    pub lays_as : (rule : Res Plan) → rule ≡ said x → Lays r tasks releases deadlines rule
    unfolding no_line
    lays_as rule q = record { answered = rw (e, q); left = rw (e, q, z.0, z.1, z.2) }

    pub lays_refused : (p : Plan) → layout p ≡ said x → Lays r tasks releases deadlines (laid p)
    unfolding laid
    lays_refused p q = lays_as (laid p) (rw q)

pub closes_sound : (p : Plan) (r : Result Line Refusal) → r ≡ Ok (line_in (line_of p)) → layout p ≡ ok (layout_of p) → Closes r (laid p)
unfolding laid
closes_sound p r e q = record { answered = rw (e, q); left = rw (e, q) }

all_same : (p q : ℕ → Bool) (n : ℕ) → ((k : ℕ) → k < n → p k ≡ q k) → all p (up_to n) ≡ all q (up_to n)
all_same p q zero h = refl
all_same p q (suc n) h =
    let e : n + 1 ≡ suc n = omega arith in
    ap (λ (x : ℕ). all p (up_to x)) (sym e) ∙ all-up_to_more p n
    ∙ ap₂ ◌&&◌ (all_same p q n (λ k w. h k (omega arith))) (h n (omega arith))
    ∙ sym (all-up_to_more q n) ∙ ap (λ (x : ℕ). all q (up_to x)) e

module _ (p : Plan) where
  messages_are : length p.tasks ≤ 256 → all (message_fits p) (bus_tasks p) ≡ all (message_keeps (by_number (is_bus_task p)) p) (up_to (length p.tasks))
  unfolding bus_tasks message_fits message_keeps flag_at by_number
  messages_are few =
      all_keep (is_bus_task p) (message_fits p) (up_to (length p.tasks))
      ∙ all_same (λ t. cond (is_bus_task p t) (message_fits p t) true) (message_keeps (by_number (is_bus_task p)) p) (length p.tasks)
      (λ t w. let h : t < 256 = omega arith in sym (rw (get_or-tab (is_bus_task p) 0 256 t false h, zero-add)))

  sender_or-none : (most n : ℕ) → cond (ltb 0 n) (leb n most) true ≡ leb n most
  sender_or-none most n = go (ltb 0 n) refl
    where
      go : (b : Bool) → ltb 0 n ≡ b → cond b (leb n most) true ≡ leb n most
      go true e = refl
      go false e = let z : n ≤ 0 = ltb-false 0 n e in let y : n ≤ most = omega arith in sym (le-leb n most y)

  controls_are : p.nodes ≤ 256 → all (control_fits p) (sending_nodes p) ≡ all (payload_keeps (by_number (control_payload p)) p.bus.most) (up_to p.nodes)
  unfolding sending_nodes control_fits is_sending_node payload_keeps by_number
  controls_are few =
      all_keep (is_sending_node p) (control_fits p) (up_to p.nodes)
      ∙ all_same (λ n. cond (is_sending_node p n) (control_fits p n) true) (payload_keeps (by_number (control_payload p)) p.bus.most) p.nodes
      (λ n w.
      let h : n < 256 = omega arith in
      sender_or-none p.bus.most (control_payload p n)
      ∙ sym (rw (get_or-tab (control_payload p) 0 256 n 0 h, zero-add)))

  module _ (tasks : List Bool) (payloads : List ℕ) (few : length p.tasks ≤ 256) (nodes : p.nodes ≤ 256)
      (t : tasks ≡ by_number (is_bus_task p)) (c : payloads ≡ by_number (control_payload p)) (rest : layout p ≡ closing p)
    where
      fit_is : payloads_fit p ≡ (all (message_keeps tasks p) (up_to (length p.tasks)) && all (payload_keeps payloads p.bus.most) (up_to p.nodes))
      unfolding payloads_fit
      fit_is = rw (t, c) (ap₂ ◌&&◌ (messages_are few) (controls_are nodes))

      pub ten_message : all (message_keeps tasks p) (up_to (length p.tasks)) ≡ false → layout p ≡ refuse 10 0
      unfolding closing
      ten_message e = rest ∙ rw (fit_is, e)

      pub ten_control : all (message_keeps tasks p) (up_to (length p.tasks)) ≡ true → all (payload_keeps payloads p.bus.most) (up_to p.nodes) ≡ false → layout p ≡ refuse 10 0
      unfolding closing
      ten_control e f = rest ∙ rw (fit_is, e, f)

      module _ (m : all (message_keeps tasks p) (up_to (length p.tasks)) ≡ true) (k : all (payload_keeps payloads p.bus.most) (up_to p.nodes) ≡ true) where
        pub eleven : (traffic p).period < control_end p → layout p ≡ refuse 11 0
        unfolding closing
        eleven h = rest ∙ rw (fit_is, m, k, lt-leb (control_end p) (traffic p).period h)

        pub sound : control_end p ≤ (traffic p).period → layout p ≡ ok (layout_of p)
        unfolding closing
        sound h = rest ∙ rw (fit_is, m, k, le-leb (control_end p) (traffic p).period h)
