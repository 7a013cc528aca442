-- What `table_rows` leaves in the local arrays is put into what `write_table` promises of the bytes.
use mathlib.Core.Path.{refl, ap, ◌∙◌}
use lib.Seq.{sets}
use Rattle.rows.specs.Rows.{TableRows}
use Rattle.linetable.specs.Steps.{bytes_of}
use borrow.Author.Rules.{rules}
use Rattle.linetable.proofs.write_placed.Goals as goal

pub table_rows-requires : goal.table_rows-requires
table_rows-requires c =
    record {
      count_le_most_frames = c.requires.controls_le_most_nodes.1;
      tasks_len = (c.requires.tasks_len.0, c.requires.tasks_len.1, search rules);
      row_tasks_value = (refl, refl, refl);
    }

pub returns : goal.returns
unfolding bytes_of
returns c =
    let a = c.args in
    c.write_table.ensures
    ∙ ap (λ (rows : TableRows). sets a.buf.now 0 (bytes_of a.line a.by_start.now rows)) c.table_rows.ensures
