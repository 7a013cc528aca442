-- docs/RULES.md, section 19: what the line of each kind of record has, place by place. Printing and reading go by the same table.
use Rattle.std.specs.Prelude.{List, [], ◌∷◌, get_or, ℕ}
use Rattle.text.specs.Text.{ascii}
use Rattle.planwords.specs.declared.Name.{Name}
use Rattle.planwords.specs.declared.Name.TheVariants.{
  Bus,
  Kbit,
  Overhead,
  Least,
  Largest,
  Gap,
  Resolution,
  BitsPerByte,
  Nodes,
  Module,
  On,
  Node,
  Mode,
  Of,
  Period,
  Switch,
  Task,
  Bytes,
  Worst,
  Run,
  In,
  Rate,
  Connect,
  To,
}
use Rattle.planwords.specs.declared.Item.{Item}
use Rattle.planwords.specs.declared.Item.TheVariants.{Word, Number}

-- how each word is spelled
unfoldable pub spelled : Name → List ℕ
spelled Bus = ascii "bus"
spelled Kbit = ascii "kbit/s"
spelled Overhead = ascii "overhead-bytes"
spelled Least = ascii "least-payload"
spelled Largest = ascii "largest-payload"
spelled Gap = ascii "gap-bits"
spelled Resolution = ascii "resolution"
spelled BitsPerByte = ascii "bits-per-byte"
spelled Nodes = ascii "nodes"
spelled Module = ascii "module"
spelled On = ascii "on"
spelled Node = ascii "node"
spelled Mode = ascii "mode"
spelled Of = ascii "of"
spelled Period = ascii "period"
spelled Switch = ascii "switch"
spelled Task = ascii "task"
spelled Bytes = ascii "bytes"
spelled Worst = ascii "worst"
spelled Run = ascii "run"
spelled In = ascii "in"
spelled Rate = ascii "rate"
spelled Connect = ascii "connect"
spelled To = ascii "to"

-- The line of a kind: its first word, what stands behind it, and what its records are called where they are counted.
pub record Form : Type 0 where
  pub first : Name
  pub items : List Item
  pub thing : List ℕ

-- what the lines of both kinds of bus begin with, and what follows that
abbrev pub bus_then : List Item → List Item
bus_then more =
    Word Kbit ∷ Number 4 0 ∷ Word Overhead ∷ Number 2 0 ∷ Word Least ∷ Number 2 0 ∷ Word Largest ∷ Number 2 0 ∷ Word Gap ∷ Number 2 0
    ∷ Word Resolution ∷ Number 4 0 ∷ more

abbrev pub no_form : Form
no_form = record { first = Bus; items = []; thing = [] }

-- Rule 19.2: the lines of the kinds 1 to 7 and 9. Buses and nodes are not counted.
unfoldable pub forms : List Form
forms =
    no_form
    ∷ record { first = Bus; items = bus_then []; thing = [] }  -- 1 bus
    ∷ record { first = Nodes; items = Number 1 0 ∷ []; thing = [] }  -- 2 number of nodes
    ∷ record { first = Module; items = Word On ∷ Word Node ∷ Number 1 0 ∷ []; thing = ascii "module" }  -- 3 module
    ∷ record {
      first = Mode;
      items = Word Of ∷ Word Module ∷ Number 1 2 ∷ Word Period ∷ Number 4 7 ∷ Word Switch ∷ Number 4 7 ∷ [];
      thing = ascii "mode";
    }  -- 4 mode
    ∷ record {
      first = Task;
      items = Word Of ∷ Word Module ∷ Number 1 2 ∷ Word Bytes ∷ Number 1 0 ∷ Word Worst ∷ Number 4 7 ∷ [];
      thing = ascii "task";
    }  -- 5 task
    ∷ record {
      first = Run;
      items = Word In ∷ Word Mode ∷ Number 1 2 ∷ Word Task ∷ Number 1 2 ∷ Word Rate ∷ Number 2 5 ∷ [];
      thing = ascii "run";
    }  -- 6 invocation
    ∷ record {
      first = Connect;
      items = Word Task ∷ Number 1 2 ∷ Word To ∷ Word Task ∷ Number 1 2 ∷ [];
      thing = ascii "connection";
    }  -- 7 connection
    ∷ no_form
    ∷ record { first = Bus; items = bus_then (Word BitsPerByte ∷ Number 1 0 ∷ []); thing = [] }  -- 9 bus with the bits of a byte
    ∷ []

unfoldable pub form_of : ℕ → Form
form_of kind = get_or forms kind no_form

-- the word that a line begins with, what stands behind it, and what is counted
unfoldable pub first_of : ℕ → Name
first_of kind = (form_of kind).first

unfoldable pub items_of : ℕ → List Item
items_of kind = (form_of kind).items

unfoldable pub thing_of : ℕ → List ℕ
thing_of kind = (form_of kind).thing
