-- The jobs of docs/RULES.md, section 10, and our own entries, as one list under one claim, by computation.
use lib.Dec.{T}
use Rattle.laws.specs.Lists.{all}
use Rattle.laws.specs.Numbers.{euclid, gcd, lcm, ceil, up, down}
use Rattle.rules.specs.Records.{kinds, known, fields, body_length, is_bus, plan_follows, head_kind, is_head, table_follows, record_of, walk, records}
use Rattle.rules.specs.Plan.{bus_of, mode_of, task_of, invocation_of, connection_of, is_kind, is_bus_record, things, only, the_bus, module_of, plan_of, count, least_counts, most_counts, count_fits, names_are_there, payloads_ordered, numbers_are_within, the_mode, the_task, the_invocation, period_of, is_home, has_mode, switch_divides, fits_its_mode, same_run, invocation_keeps, is_own, same_ends, connection_keeps, first_mode, first_invocation, first_connection, rule5, read_plan}
use Rattle.rules.specs.Traffic.{module_node, task_node, invokes, leaves, is_bus_task, bus_tasks, lives_in, is_sending, stands_on}
use Rattle.rules.specs.Traffic.{senders_on, control_payload, is_sending_node, sending_nodes, run_of, of_bus_task, bus_runs, with_run}
use Rattle.rules.specs.Traffic.{period_of_runs, bus_period, with_mode, of_sender, switch_grid, message, messages_of, messages, basic, is_message, has}
use Rattle.rules.specs.Traffic.{is_invoked, is_left, read_in, periods_of, can_be_thinned, thins_for, is_counted, counted_runs, thinned_period, ends_in, of_end, thinned_grid}
use Rattle.rules.specs.Traffic.{read_at, reads_with, is_by, latest_by, needed_at, is_needed_at, is_read_in, needs, is_kept, kept_messages, thinned, traffic}
use Rattle.rules.specs.Frames.{pair_of, pair_order, merged, with_pair, pairs_of, pairs, pair_size, has_of, bytes_in, is_mode_in, block, payload}
use Rattle.rules.specs.Frames.{of_bits, on_bus, sending_time, gap_on_bus, gap_time, cycle_end, control_from, control_rows, control_end, some_bus_task, message_fits, control_fits}
use Rattle.rules.specs.Frames.{payloads_fit, row_time, layout_of, layout}
use Rattle.rules.specs.Readers.{is_read, is_read_by, needs_all, leads_to, is_reader, is_thinned, readers_of}
use Rattle.rules.specs.Direct.{multiple_after, read_after, is_end, deadline_after, is_still_ahead, next_of, next_place, is_due, due_at, release_for, pair_at, found_then, walk_runs_from, walk_runs}
use Rattle.rules.specs.LatestRelease.{numbered_from, with_deadline, greatest_deadline, is_candidate, is_later, latest_of, is_other, lowered, taken, start_of, fits, place, time_alone, latest_release}
use Rattle.rules.specs.Table.{record_bytes, held_in, pairs_in, alone, is_number, data_row, header_bytes, control_bytes, data_bytes, table_bytes, start_for, rows_from, rows_then_zero, made_table, table_for, make}
use Rattle.rules.specs.Checker.{control_row_of, data_row_of, is_head_record, head_of, table_of, header_right, control_at, row_at, same_control, control_kept, name_of, row_of, is_pair_of, same_name, held_before, is_new, named_in, pairs_of_row, names_new, time_kept, is_released_by, release_kept, is_due_from, deadline_kept, gap_kept, last_kept, first_row, last_row, rows_keep, shaped, timed, judged, is_for_consumers, check_files, holds_pair, row_holding, checked_row, check}
use Rattle.rules.specs.Station.{passed_pair, kept_of}
use Rattle.rules.specs.Jobs.{lent_rows, lent_bytes, zero_rows, bytes_of, file, changed, records_a, plan_a, plan_awith, plan_ajoined, frames_from, frames_a, table_a, rows_of, rows_a, table_awith, frames_b, bus_of_a, records_aof, plan_ten, table_ten, records_j, table_j, frames_j, records_s, records_many, modes_in, invoked_from, plan_of_two, table_of_two, joins, records_counted, plenty, document_jobs, limits, table_at_c, table_coarse, table_gap, table_equal, table_rounded, table_least, table_early, table_two_faults, table_in_gap, table_off, frames_of_four, frames_at_c, own_entries, byte_entries, plan_five, table_five, frames_five, plan_dropped, table_dropped, frames_dropped, plan_two_modes, plan_equal, plan_both, plan_faster, plan_slower, table_both, plan_often, plan_unread, plan_within, table_within, consumer_jobs, long_entries, entries, holds}

-- all that the jobs compute with
unfoldable pub everything : Unit {0}
unfolding euclid gcd lcm ceil up down kinds known fields body_length is_bus plan_follows head_kind is_head table_follows record_of walk records bus_of mode_of
    task_of invocation_of connection_of is_kind is_bus_record things only the_bus module_of plan_of count least_counts most_counts count_fits names_are_there
    payloads_ordered numbers_are_within the_mode the_task the_invocation period_of is_home has_mode switch_divides fits_its_mode same_run
    invocation_keeps is_own same_ends connection_keeps first_mode first_invocation first_connection rule5 read_plan module_node task_node invokes leaves is_bus_task bus_tasks
    lives_in is_sending stands_on senders_on control_payload is_sending_node sending_nodes run_of of_bus_task bus_runs with_run period_of_runs
    bus_period with_mode of_sender switch_grid message messages_of messages pair_order merged with_pair pairs_of pairs pair_of basic is_message has is_invoked is_left read_in periods_of can_be_thinned thins_for is_counted counted_runs thinned_period ends_in of_end thinned_grid
    read_at reads_with is_by latest_by needed_at is_needed_at is_read_in needs is_kept kept_messages thinned traffic pair_size has_of bytes_in is_mode_in block payload row_time
    of_bits on_bus sending_time gap_on_bus gap_time cycle_end control_from control_rows control_end some_bus_task message_fits control_fits payloads_fit layout_of
    layout is_read is_read_by needs_all leads_to is_reader is_thinned readers_of multiple_after read_after is_end deadline_after is_still_ahead next_of next_place is_due due_at release_for pair_at found_then walk_runs_from walk_runs numbered_from with_deadline greatest_deadline is_candidate is_later latest_of is_other lowered taken start_of fits
    place time_alone latest_release record_bytes held_in pairs_in alone is_number data_row header_bytes control_bytes data_bytes table_bytes start_for rows_from
    rows_then_zero made_table table_for make control_row_of data_row_of is_head_record head_of table_of header_right control_at row_at same_control control_kept
    name_of row_of is_pair_of same_name held_before is_new named_in pairs_of_row names_new time_kept is_released_by release_kept is_due_from deadline_kept gap_kept last_kept first_row last_row rows_keep shaped timed judged is_for_consumers check_files
    holds_pair row_holding checked_row check passed_pair kept_of lent_rows lent_bytes zero_rows bytes_of file changed records_a plan_a plan_awith plan_ajoined frames_from frames_a table_a rows_of rows_a table_awith
    frames_b bus_of_a records_aof plan_ten table_ten records_j table_j frames_j records_s records_many modes_in invoked_from plan_of_two table_of_two joins records_counted plenty document_jobs limits table_at_c table_coarse table_gap table_equal table_rounded table_least table_early table_two_faults table_in_gap
    table_off frames_of_four frames_at_c own_entries byte_entries plan_five table_five frames_five plan_dropped table_dropped frames_dropped plan_two_modes plan_equal plan_both plan_faster plan_slower table_both plan_often plan_unread plan_within table_within
    consumer_jobs long_entries entries
everything = tt

pub jobs : T (all holds entries)
unfolding everything
jobs = tt
