-- The arrays of a station have their lengths, from the beginning on and behind every tick; so the state that is laid into them is
-- read off them again, at every place of a station.
use mathlib.Core.Path.{◌≡◌, refl, ap, ap₂, ◌∙◌}
use lib.ListN.{length, get_or}
use Prim.Native.Nat.{ℕ, ◌+◌, ◌*◌, ◌<◌}
use Rattle.laws.proofs.Loops.{length-stores}
use Rattle.laws.proofs.Stores.{stores-within}
use Rattle.places.specs.Flags.{flag_bytes, is_set}
use Rattle.places.proofs.Flags.{set-byte}
use Rattle.rules.specs.Station.{State}
use Rattle.rules.proofs.StationPlaces.{Agree}
use Rattle.stationnodes.specs.Nodes.{no_node}
use Rattle.stationnodes.specs.declared.Node.{Node}
use Rattle.station.specs.Memory.{state_of, held_laid, play_laid, node_laid, laid}
use Rattle.station.specs.declared.Station.{Station}
use Rattle.station.proofs.Nodes.{place-node, place_module, place-within}

pub record Sized (st : Station) : Type 0 where
  pub running : length st.play.running ≡ 16
  pub ages : length st.play.ages ≡ 16
  pub bytes : length st.play.bytes ≡ 16
  pub givens : length st.play.givens ≡ 32
  pub out : length st.play.out ≡ 32
  pub held : length st.play.held ≡ 128
  pub full : length st.play.full ≡ 32
  pub loads : length st.play.loads ≡ 32
  pub nodes : length st.nodes ≡ 8
  pub landed : (n : ℕ) → n < 8 → length (get_or st.nodes n no_node).landed ≡ 32
  pub shown : (n : ℕ) → n < 8 → length (get_or st.nodes n no_node).shown ≡ 32

module _ (st : Station) (z : Sized st) (s : State) where
  node_at : (n : ℕ) → n < 8 → get_or (laid st s).nodes n no_node ≡ node_laid st.nodes s n
  unfolding laid
  node_at n w = stores-within st.nodes (node_laid st.nodes s) 8 no_node z.nodes refl n w

  pub sized-laid : Sized (laid st s)
  unfolding laid play_laid node_laid
  sized-laid =
      record {
        running = length-stores st.play.running s.mode 16 ∙ z.running;
        ages = length-stores st.play.ages s.age 16 ∙ z.ages;
        bytes = length-stores st.play.bytes s.mode_byte 16 ∙ z.bytes;
        givens = length-stores st.play.givens (flag_bytes s.given) 32 ∙ z.givens;
        out = length-stores st.play.out s.out 32 ∙ z.out;
        held = length-stores st.play.held (held_laid s) 128 ∙ z.held;
        full = length-stores st.play.full (flag_bytes s.full) 32 ∙ z.full;
        loads = length-stores st.play.loads s.load 32 ∙ z.loads;
        nodes = length-stores st.nodes (node_laid st.nodes s) 8 ∙ z.nodes;
        landed = λ n w. ap (λ (x : Node). length x.landed) (node_at n w) ∙ length-stores (get_or st.nodes n no_node).landed (s.landed n) 32 ∙ z.landed n w;
        shown = λ n w. ap (λ (x : Node). length x.shown) (node_at n w) ∙ length-stores (get_or st.nodes n no_node).shown (s.shown n) 32 ∙ z.shown n w;
      }

  held_place : (n m : ℕ) → m < 16 → held_laid s (n * 16 + m) ≡ s.held n m
  unfolding held_laid
  held_place n m w = ap₂ (λ (x y : ℕ). s.held x y) (place-node n m w) (place_module n m w)

  pub laid_agrees : Agree (state_of (laid st s)) s
  unfolding laid play_laid node_laid state_of
  laid_agrees =
      record {
        clock = refl;
        mode = λ m w. stores-within st.play.running s.mode 16 0 z.running refl m w;
        age = λ m w. stores-within st.play.ages s.age 16 0 z.ages refl m w;
        given = λ t w. ap is_set (stores-within st.play.givens (flag_bytes s.given) 32 0 z.givens refl t w) ∙ set-byte (s.given t);
        out = λ t w. stores-within st.play.out s.out 32 0 z.out refl t w;
        landed = λ n v t w. ap (λ (x : Node). get_or x.landed t 0) (node_at n v) ∙ stores-within (get_or st.nodes n no_node).landed (s.landed n) 32 0 (z.landed n v) refl t w;
        shown = λ n v t w. ap (λ (x : Node). get_or x.shown t 0) (node_at n v) ∙ stores-within (get_or st.nodes n no_node).shown (s.shown n) 32 0 (z.shown n v) refl t w;
        held = λ n v m w. stores-within st.play.held (held_laid s) 128 0 z.held refl (n * 16 + m) (place-within n m v w) ∙ held_place n m w;
        full = λ t w. ap is_set (stores-within st.play.full (flag_bytes s.full) 32 0 z.full refl t w) ∙ set-byte (s.full t);
        load = λ t w. stores-within st.play.loads s.load 32 0 z.loads refl t w;
        mode_byte = λ m w. stores-within st.play.bytes s.mode_byte 16 0 z.bytes refl m w;
      }
