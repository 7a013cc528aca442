-- A line's items from the bytes of its record's body, one behind the other.
use Rattle.std.specs.Prelude.{cond, List, [], ◌∷◌, ◌++◌, eqb, take, drop, ℕ}
use Rattle.laws.specs.Numbers.{number}
use Rattle.text.specs.Text.{decimal, pad_left}
use Rattle.planwords.specs.declared.Item.{Item}
use Rattle.planwords.specs.declared.Item.TheVariants.{Word, Number}
use Rattle.planwords.specs.Items.{spelled}

-- the number at the front of bytes: it has one byte, two or four
unfoldable pub number_in : ℕ → List ℕ → ℕ
number_in wide body = cond (eqb wide 1) (number (take 1 body)) (cond (eqb wide 2) (number (take 2 body)) (number (take 4 body)))

-- what is printed of an item, and how many bytes of the body it takes
abbrev pub item_text : Item → List ℕ → List ℕ
item_text (Word name) body = 32 ∷ spelled name
item_text (Number wide columns) body = 32 ∷ pad_left columns (decimal (number_in wide body))

abbrev pub item_wide : Item → ℕ
item_wide (Word name) = 0
item_wide (Number wide columns) = wide

abbrev pub items_in : List Item → List ℕ → List ℕ
items_in [] body = []
items_in (item ∷ items) body = item_text item body ++ items_in items (drop (item_wide item) body)
