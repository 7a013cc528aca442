-- The control frames one after the other: one node more, and that no control frame stops after C.
use mathlib.Core.Path.{◌≡◌, refl, sym, ap, ◌∙◌}
use mathlib.Core.Bool.{true, false}
use mathlib.Core.List.{List, [], ◌∷◌, ◌++◌, map}
use borrow.Author.Tests.{lt-ltb, le-ltb}
use native.Mathlib.Nat.{le_trans, le_refl, add-zero}
use native.Mathlib.Omega.{arith}
use lib.ListN.{length, get_or, set, replicate, length-map}
use Prim.Native.Nat.{ℕ, zero, suc, ◌+◌, ◌-◌, ◌≤◌, ◌<◌}
use Rattle.laws.specs.Lists.{keep, last_d, up_to}
use Rattle.laws.specs.Loops.{pad_to}
use Rattle.laws.proofs.Lists.{keep_snoc_no, up_to_more, keep_snoc_yes, map_snoc, length_snoc, length-keep, length-up_to, pad_to-none, pad_to_snoc, tested}
use mathlib.Core.Logic.{◌⊎◌, inl, inr}
use Rattle.rules.specs.Plan.{Plan}
use Rattle.rules.specs.Traffic.{control_payload, is_sending_node, sending_nodes}
use Rattle.rules.specs.Frames.{ControlRow, no_control_row, sending_time, gap_time, control_from, control_rows, control_end}
use Rattle.bus.specs.Senders.{by_number}
use Rattle.bus.proofs.Tables.{at-number}
use Rattle.control.specs.Control.{node_of, start_of, stop_of, column}

module _ (q : Plan) where
  -- how long a node's control frame takes
  unfoldable pub time_of : ℕ → ℕ
  time_of n = sending_time q.bus (control_payload q n)

  -- when the next may start behind those of the nodes ns
  unfoldable pub next_start : ℕ → List ℕ → ℕ
  next_start start [] = start
  next_start start (n ∷ ns) = next_start (start + time_of n + gap_time q.bus) ns

  unfoldable pub row_of : ℕ → ℕ → ControlRow
  row_of start n = record { node = n; start = start; stop = start + time_of n }

  next_snoc : (start : ℕ) (ns : List ℕ) (n : ℕ) → next_start start (ns ++ (n ∷ [])) ≡ next_start start ns + time_of n + gap_time q.bus
  unfolding next_start
  next_snoc start [] n = refl
  next_snoc start (m ∷ ns) n = next_snoc (start + time_of m + gap_time q.bus) ns n

  from_snoc : (start : ℕ) (ns : List ℕ) (n : ℕ) → control_from q start (ns ++ (n ∷ [])) ≡ control_from q start ns ++ (row_of (next_start start ns) n ∷ [])
  unfolding next_start control_from row_of time_of
  from_snoc start [] n = refl
  from_snoc start (m ∷ ns) n = ap (λ (r : List ControlRow). row_of start m ∷ r) (from_snoc (start + time_of m + gap_time q.bus) ns n)

  last_snoc : {A : Type 0} (l : List A) (x d : A) → last_d (l ++ (x ∷ [])) d ≡ x
  last_snoc [] x d = refl
  last_snoc (y ∷ l) x d = last_snoc l x y

  -- a gap behind the last stop is where the next may start
  next-is-end : (start : ℕ) (n : ℕ) (ns : List ℕ) (d : ControlRow) → next_start start (n ∷ ns) ≡ (last_d (control_from q start (n ∷ ns)) d).stop + gap_time q.bus
  unfolding next_start control_from time_of
  next-is-end start n [] d = refl
  next-is-end start n (m ∷ ns) d = next-is-end (start + time_of n + gap_time q.bus) m ns (record { node = n; start = start; stop = start + time_of n })

  next-below-end : (ns : List ℕ) → next_start 0 ns ≤ (last_d (control_from q 0 ns) no_control_row).stop + gap_time q.bus
  unfolding next_start
  next-below-end [] = omega arith
  next-below-end (n ∷ ns) = let e = next-is-end 0 n ns no_control_row in omega (arith, e)

  -- ---- the sending nodes below k

  unfoldable pub nodes_to : ℕ → List ℕ
  nodes_to k = keep (is_sending_node q) (up_to k)

  unfoldable pub next_at : ℕ → ℕ
  next_at k = next_start 0 (nodes_to k)

  unfoldable pub rows_to : ℕ → List ControlRow
  rows_to k = control_from q 0 (nodes_to k)

  unfoldable pub stop_at : ℕ → ℕ
  stop_at k = (last_d (rows_to k) no_control_row).stop

  nodes_yes : (k : ℕ) → is_sending_node q k ≡ true → nodes_to (k + 1) ≡ nodes_to k ++ (k ∷ [])
  unfolding nodes_to
  nodes_yes k e = rw (up_to_more k) (keep_snoc_yes (is_sending_node q) (up_to k) k e)

  nodes_no : (k : ℕ) → is_sending_node q k ≡ false → nodes_to (k + 1) ≡ nodes_to k
  unfolding nodes_to
  nodes_no k e = rw (up_to_more k) (keep_snoc_no (is_sending_node q) (up_to k) k e)

  pub rows_yes : (k : ℕ) → is_sending_node q k ≡ true → rows_to (k + 1) ≡ rows_to k ++ (row_of (next_at k) k ∷ [])
  unfolding rows_to next_at
  rows_yes k e = rw (nodes_yes k e) (from_snoc 0 (nodes_to k) k)

  pub rows_no : (k : ℕ) → is_sending_node q k ≡ false → rows_to (k + 1) ≡ rows_to k
  unfolding rows_to
  rows_no k e = rw (nodes_no k e)

  pub next_yes : (k : ℕ) → is_sending_node q k ≡ true → next_at (k + 1) ≡ next_at k + time_of k + gap_time q.bus
  unfolding next_at
  next_yes k e = rw (nodes_yes k e) (next_snoc 0 (nodes_to k) k)

  pub next_no : (k : ℕ) → is_sending_node q k ≡ false → next_at (k + 1) ≡ next_at k
  unfolding next_at
  next_no k e = rw (nodes_no k e)

  pub stop_yes : (k : ℕ) → is_sending_node q k ≡ true → stop_at (k + 1) ≡ next_at k + time_of k
  unfolding stop_at row_of
  stop_yes k e =
      ap (λ (l : List ControlRow). (last_d l no_control_row).stop) (rows_yes k e)
      ∙ ap (λ (r : ControlRow). r.stop) (last_snoc (rows_to k) (row_of (next_at k) k) no_control_row)

  pub stop_no : (k : ℕ) → is_sending_node q k ≡ false → stop_at (k + 1) ≡ stop_at k
  unfolding stop_at
  stop_no k e = ap (λ (l : List ControlRow). (last_d l no_control_row).stop) (rows_no k e)

  -- ---- no stop behind C

  next_grows : (k : ℕ) → next_at k ≤ next_at (k + 1)
  next_grows k = by_case (tested (is_sending_node q k))
    where
      by_case : (is_sending_node q k ≡ true) ⊎ (is_sending_node q k ≡ false) → next_at k ≤ next_at (k + 1)
      by_case (inl e) = omega (arith, next_yes k e)
      by_case (inr e) = omega (arith, next_no k e)

  next_monotone : (k d : ℕ) → next_at k ≤ next_at (k + d)
  next_monotone k zero = rw (add-zero k) (le_refl _)
  next_monotone k (suc d) =
      let e : k + suc d ≡ k + d + 1 = omega arith in
      rw e (le_trans (next_monotone k d) (next_grows (k + d)))

  pub next-below : (k : ℕ) → k ≤ q.nodes → next_at k ≤ control_end q
  unfolding control_end control_rows sending_nodes nodes_to
  next-below k w =
      let e : k + (q.nodes - k) ≡ q.nodes = omega arith in
      le_trans (rw e at (next_monotone k (q.nodes - k))) (unfold next_at in (next-below-end (nodes_to q.nodes)))

  -- ---- as a loop's turn has it: over the table of payloads

  module _ {payloads : List ℕ} (k : ℕ) (e : payloads ≡ by_number (control_payload q)) (w : k < 256) where
    here : get_or payloads k 0 ≡ control_payload q k
    here = rw e (at-number (control_payload q) k 0 w)

    pub sends_yes : 0 < get_or payloads k 0 → is_sending_node q k ≡ true
    unfolding is_sending_node
    sends_yes h = lt-ltb 0 (control_payload q k) (rw here at h)

    pub sends_no : get_or payloads k 0 ≤ 0 → is_sending_node q k ≡ false
    unfolding is_sending_node
    sends_no h = le-ltb 0 (control_payload q k) (rw here at h)

    pub time-is : {v x : ℕ} → x ≡ get_or payloads k 0 → v ≡ sending_time q.bus x → v ≡ time_of k
    unfolding time_of
    time-is g h = h ∙ ap (sending_time q.bus) (g ∙ here)

-- one number of each row, of one row more
column_snoc : (f : ControlRow → ℕ) (rs : List ControlRow) (r : ControlRow) → column f (rs ++ (r ∷ [])) ≡ set (column f rs) (length rs) (f r)
column_snoc f rs r =
    ap (pad_to 8 0) (map_snoc f rs r) ∙ pad_to_snoc 8 0 (map f rs) (f r)
    ∙ ap (λ (n : ℕ). set (pad_to 8 0 (map f rs)) n (f r)) (length-map rs f)

module _ (q : Plan) where
  -- no more rows than nodes
  from-length : (ns : List ℕ) (start : ℕ) → length (control_from q start ns) ≡ length ns
  unfolding control_from
  from-length [] start = refl
  from-length (n ∷ ns) start = ap suc (from-length ns _)

  pub rows_few : (k : ℕ) → length (rows_to q k) ≤ k
  unfolding rows_to nodes_to
  rows_few k = rw (from-length (nodes_to q k) 0) (rw (length-up_to k) at (length-keep (is_sending_node q) (up_to k)))

  -- the rows of the nodes below k stand in the arrays
  pub record Shown (k count next : ℕ) (nodes starts stops : List ℕ) : Type 0 where
    pub counted : count ≡ length (rows_to q k)
    pub reached : next ≡ next_at q k
    pub noded : nodes ≡ column node_of (rows_to q k)
    pub started : starts ≡ column start_of (rows_to q k)
    pub stopped : stops ≡ column stop_of (rows_to q k)

  module _ {k count next : ℕ} {nodes starts stops : List ℕ} (h : Shown k count next nodes starts stops) where
    pub shown-few : count ≤ k
    shown-few = omega (arith, h.counted, rows_few k)

    -- what the turn at a sending node makes stops by C
    pub shown-fits : is_sending_node q k ≡ true → k < q.nodes → next + time_of q k ≤ control_end q
    shown-fits y w = let b : next_at q (k + 1) ≤ control_end q = next-below q (k + 1) (omega arith) in omega (arith, h.reached, next_yes q k y)

    pub shown_more : {stop next' : ℕ} → is_sending_node q k ≡ true → stop ≡ next + time_of q k → next' ≡ stop + gap_time q.bus
        → Shown (k + 1) (count + 1) next' (set nodes count k) (set starts count next) (set stops count stop)
    unfolding row_of
    shown_more y s n =
        record {
          counted = rw (rows_yes q k y) (ap (λ (m : ℕ). m + 1) h.counted ∙ sym (length_snoc (rows_to q k) (row_of q (next_at q k) k)));
          reached = n ∙ rw (s, h.reached) (sym (next_yes q k y));
          noded = rw (rows_yes q k y, h.counted, h.noded) (sym (column_snoc node_of (rows_to q k) (row_of q (next_at q k) k)));
          started =
              rw (rows_yes q k y, h.reached, h.counted, h.started) (sym (column_snoc start_of (rows_to q k) (row_of q (next_at q k) k)));
          stopped =
              rw (rows_yes q k y, s, h.reached, h.counted, h.stopped) (sym (column_snoc stop_of (rows_to q k) (row_of q (next_at q k) k)));
        }

    pub shown-kept : is_sending_node q k ≡ false → Shown (k + 1) count next nodes starts stops
    shown-kept y =
        record {
          counted = rw (rows_no q k y) h.counted;
          reached = rw (next_no q k y) h.reached;
          noded = rw (rows_no q k y) h.noded;
          started = rw (rows_no q k y) h.started;
          stopped = rw (rows_no q k y) h.stopped;
        }

  pub shown-none : Shown 0 0 0 (replicate 8 0) (replicate 8 0) (replicate 8 0)
  unfolding rows_to next_at next_start nodes_to control_from
  shown-none =
      record { counted = refl; reached = refl; noded = sym (pad_to-none 8 0); started = sym (pad_to-none 8 0); stopped = sym (pad_to-none 8 0) }
