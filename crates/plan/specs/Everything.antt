-- `everything` on an unfolding line opens every definition of the book at once, for closed cases. A proof opens the few that it needs, by name.
use mathlib.Core.List.{head_d, get_last_d, flatten}
use Rattle.std.specs.Prelude.{ℕ}
use Rattle.plan.specs.Lists.{list_at, each_once}
use Rattle.plan.specs.Refusals.{first_fault, family_of}
use Rattle.plan.specs.Mesh.{neighbours_of, adjacent, bad_node_count, bad_starts, bad_mesh_starts, too_many_entries, neighbour_outside, lists_itself, not_ascending, list_too_long, one_sided, mesh_checks}
use Rattle.plan.specs.Levels.{next_level, add_level, levels_back, levels, eccentricity, widest, width, component, components_up_to, components}
use Rattle.plan.specs.Choice.{degree_in, lesser, least_from, least_degree, candidates, improves, next_root, root_from, root_of, stays_whole, cut_level, separator, numbering, standard, choose_part, george_liu}
use Rattle.plan.specs.Dissection.{dissect, dissection, parts, parents_from, parents, order, sizes, positions}
use Rattle.plan.specs.Steps.{pending_below, begin, step_with, step, steps, by_number}
use Rattle.plan.specs.Elimination.{tabulate, initial, remaining, eliminate, joins_after, column, columns, starts_of, multiplications}
use Rattle.plan.specs.Parts.{part_of, parent_of, ancestors_up_to, ancestors, at_or_above, nodes_where, nodes_of_part, uncut_parts, region_of_part, boundary, boundary_size, part_bound, bound}
use Rattle.plan.specs.Demand3.{is_path, all_earlier, has_slot}
use Rattle.plan.specs.Cliques.{next_to_all, clique, uncut_cliques}
use Rattle.plan.specs.Planning.{row_counts, plan_by, plan_of, capacity, buffers_too_short, rows_too_short, bad_unknowns, plan_checks, hand_out, planning, fill, Demand3Of, CliquesOf}
use Rattle.plan.specs.File.{encode16, encode32, encode16s, decode16, decode32, decode16s, version_of, nodes_at, length_at, length_in, file_length, encode_parts, encode_contents, encode, parse_at, unknowns_in, parse, bad_header, bad_order, may_be_parent, bad_parts, bad_column, bad_columns, bad_rows, outside_ancestors, not_nested, covered, not_covered, contents_checks}
use Rattle.plan.specs.RowFaults.{bad_columns_below, outside_below, walk_answer}
use Rattle.plan.specs.Reading.{too_few_bytes, bad_magic, bad_version, too_few_in_version2, bad_length, header_checks, read_checks, reading}
use Rattle.plan.specs.Writing.{bad_supply, used, supplied_checks, output_too_short, write_checks, write_out, writing}
use Rattle.plan.specs.RoundTrips.{handed}
use Rattle.plan.specs.Version1.{parse1, not_version1, bad_length1, read_checks1, untold, reading1}
use Rattle.plan.specs.Questions.{bad_layout, layout_checks, position_outside, position_checks, question_checks, slot_of, pair_found, pair_question, column_refusal, span_found, column_span, column_rows, slot_outside, slot_checks, holds_slot, column_of, slot_found, slot_question}
use Rattle.plan.specs.Listing.{neighbours_at, entry_count, input_mesh, bad_input, listing_checks, decimal_up_to, decimal, spaced, head_line, position_line, refusal_line, print, listing}
use Rattle.plan.specs.Joining.{bad_pairing, paired_twice, goes_to, joined_nodes, comes_from, joined_neighbours, joined_lists, joined_mesh, lent_checks, join_checks, joining}
use Rattle.plan.specs.MadeMesh.{mesh_of, mesh_capacity, mesh_buffers_too_short, made_checks, hand_mesh, fill_mesh}
use Rattle.plan.specs.MatrixMarket.{lines_of, words_of, word_lines, banner, is_banner, is_number, holds_numbers, content, size_line, pair_lines, pairs_of, bad_text, bad_matrix, repeated_pair, are_neighbours, lists_of, text_mesh, text_checks, reading_text}
use Rattle.std.specs.Float.Ieee.{lt, sub, mul, div, of_bits}
use Rattle.plan.specs.Filling.{place_below, place_of, slots_of, held_at}
use Rattle.plan.specs.Factoring.{divided, pairs, pair_place, less, subtract_at, subtracted, factor_column, column_operations, after_column, factor_from, many_unknowns, bad_filling, factor_checks, factor_out, factoring}
use Rattle.plan.specs.FactorStatements.{aims_at_places, columns_done, after_columns, touches}
use Rattle.plan.specs.Solving.{less_row, forward_column, forward, by_pivot, scaled, less_column, backward_column, backward, solved, bad_vector, bad_pivot, solve_checks, solve_out, solving}
use Rattle.plan.specs.Held.{held_checks, held_found, held_question}

unfoldable pub everything : ℕ
unfolding head_d get_last_d flatten list_at each_once first_fault family_of neighbours_of adjacent bad_node_count bad_starts bad_mesh_starts too_many_entries neighbour_outside lists_itself not_ascending list_too_long one_sided mesh_checks next_level add_level levels_back levels eccentricity widest width component components_up_to components degree_in lesser least_from least_degree candidates improves next_root root_from root_of stays_whole cut_level separator numbering standard choose_part george_liu dissect dissection parts parents_from parents order sizes positions pending_below begin step_with step steps by_number tabulate initial remaining eliminate joins_after column columns starts_of multiplications part_of parent_of ancestors_up_to ancestors at_or_above nodes_where nodes_of_part uncut_parts region_of_part boundary boundary_size part_bound bound is_path all_earlier has_slot next_to_all clique uncut_cliques row_counts plan_by plan_of capacity buffers_too_short rows_too_short bad_unknowns plan_checks hand_out planning fill Demand3Of CliquesOf encode16 encode32 encode16s decode16 decode32 decode16s version_of nodes_at length_at length_in file_length encode_parts encode_contents encode parse_at unknowns_in parse bad_header bad_order may_be_parent bad_parts bad_column bad_columns bad_rows outside_ancestors not_nested covered not_covered contents_checks bad_columns_below outside_below walk_answer too_few_bytes bad_magic bad_version too_few_in_version2 bad_length header_checks read_checks reading bad_supply used supplied_checks output_too_short write_checks write_out writing handed parse1 not_version1 bad_length1 read_checks1 untold reading1 bad_layout layout_checks position_outside position_checks question_checks slot_of pair_found pair_question column_refusal span_found column_span column_rows slot_outside slot_checks holds_slot column_of slot_found slot_question neighbours_at entry_count input_mesh bad_input listing_checks decimal_up_to decimal spaced head_line position_line refusal_line print listing lines_of words_of word_lines banner is_banner is_number holds_numbers content size_line pair_lines pairs_of bad_text bad_matrix repeated_pair are_neighbours lists_of mesh_of text_mesh mesh_capacity mesh_buffers_too_short made_checks text_checks hand_mesh reading_text fill_mesh bad_pairing paired_twice goes_to joined_nodes comes_from joined_neighbours joined_lists joined_mesh lent_checks join_checks joining lt sub mul div of_bits place_below place_of slots_of held_at divided pairs pair_place less subtract_at subtracted factor_column column_operations after_column factor_from many_unknowns bad_filling factor_checks factor_out factoring aims_at_places columns_done after_columns touches less_row forward_column forward by_pivot scaled less_column backward_column backward solved bad_vector bad_pivot solve_checks solve_out solving held_checks held_found held_question
everything = 0
