-- Every word of a plan's lines is a word of a text: not empty, without blanks, line feeds and `#`, and like itself. One computed test, name by name.
use mathlib.Core.Path.{◌≡◌, refl}
use mathlib.Core.Bool.{Bool, true, ◌&&◌}
use mathlib.Core.List.{List}
use borrow.Author.Tests.{leb-true, ltb-true}
use lib.Dec.{leb, ltb}
use lib.ListN.{length}
use Prim.Native.Nat.{ℕ, ◌≤◌}
use Rattle.laws.specs.Lists.{all}
use Rattle.laws.proofs.Lists.{both_left, both_right}
use Rattle.text.specs.Lines.{behind_word, is_blank, is_letter, is_other, is_word}
use Rattle.text.proofs.Words.{Wordy}
use Rattle.planwords.specs.declared.Name.{Name}
use Rattle.planwords.specs.declared.Name.TheVariants.{
  Bus,
  Kbit,
  Overhead,
  Least,
  Largest,
  Gap,
  Resolution,
  BitsPerByte,
  Nodes,
  Module,
  On,
  Node,
  Mode,
  Of,
  Period,
  Switch,
  Task,
  Bytes,
  Worst,
  Run,
  In,
  Rate,
  Connect,
  To,
}
use Rattle.planwords.specs.Items.{spelled}

-- the letters of a word, and that it is itself
abbrev is_sound : List ℕ → Bool
is_sound w = (ltb 0 (length w) && all is_letter w) && ((all (is_other 10) w && all (is_other 35) w) && (is_word w w && leb (length w) 15))

pub record Sound (w : List ℕ) : Type 0 where
  pub wordy : Wordy w
  pub feedless : all (is_other 10) w ≡ true
  pub uncut : all (is_other 35) w ≡ true
  pub itself : is_word w w ≡ true
  pub short : length w ≤ 15

sound : (w : List ℕ) → is_sound w ≡ true → Sound w
sound w e =
    let a = both_left (ltb 0 (length w) && all is_letter w) ((all (is_other 10) w && all (is_other 35) w) && (is_word w w && leb (length w) 15)) e in
    let b = both_right (ltb 0 (length w) && all is_letter w) ((all (is_other 10) w && all (is_other 35) w) && (is_word w w && leb (length w) 15)) e in
    let c = both_left (all (is_other 10) w && all (is_other 35) w) (is_word w w && leb (length w) 15) b in
    let d = both_right (all (is_other 10) w && all (is_other 35) w) (is_word w w && leb (length w) 15) b in
    record {
      wordy =
          record {
            some = ltb-true 0 (length w) (both_left (ltb 0 (length w)) (all is_letter w) a);
            letters = both_right (ltb 0 (length w)) (all is_letter w) a;
          };
      feedless = both_left (all (is_other 10) w) (all (is_other 35) w) c;
      uncut = both_right (all (is_other 10) w) (all (is_other 35) w) c;
      itself = both_left (is_word w w) (leb (length w) 15) d;
      short = leb-true (length w) 15 (both_right (is_word w w) (leb (length w) 15) d);
    }

pub spelled-sound : (name : Name) → Sound (spelled name)
unfolding spelled is_blank is_word behind_word
spelled-sound Bus = sound (spelled Bus) refl
spelled-sound Kbit = sound (spelled Kbit) refl
spelled-sound Overhead = sound (spelled Overhead) refl
spelled-sound Least = sound (spelled Least) refl
spelled-sound Largest = sound (spelled Largest) refl
spelled-sound Gap = sound (spelled Gap) refl
spelled-sound Resolution = sound (spelled Resolution) refl
spelled-sound BitsPerByte = sound (spelled BitsPerByte) refl
spelled-sound Nodes = sound (spelled Nodes) refl
spelled-sound Module = sound (spelled Module) refl
spelled-sound On = sound (spelled On) refl
spelled-sound Node = sound (spelled Node) refl
spelled-sound Mode = sound (spelled Mode) refl
spelled-sound Of = sound (spelled Of) refl
spelled-sound Period = sound (spelled Period) refl
spelled-sound Switch = sound (spelled Switch) refl
spelled-sound Task = sound (spelled Task) refl
spelled-sound Bytes = sound (spelled Bytes) refl
spelled-sound Worst = sound (spelled Worst) refl
spelled-sound Run = sound (spelled Run) refl
spelled-sound In = sound (spelled In) refl
spelled-sound Rate = sound (spelled Rate) refl
spelled-sound Connect = sound (spelled Connect) refl
spelled-sound To = sound (spelled To) refl
