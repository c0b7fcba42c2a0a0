-- The names that the proofs of this crate take from below it and from its definitions, passed on from one place, so
-- that a proof has a line or two of imports in place of twenty. Declares nothing.
pub use Rattle.std.proofs.Common.{rules, ◌≡◌, ◌≢◌, ◌==◌, ◌<◌, ℕ, ◌*◌, ◌%◌, ◌^◌, Bool, true, false, ◌&&◌, ◌||◌, refl}
pub use Rattle.std.proofs.Common.{sym, ap, ◌∙◌, lit<, arith, ◌-◌, not, List, length, take, replicate, Option, Some}
pub use Rattle.std.proofs.Common.{None, IsTrue, nat_le, unwrap_or, if◌then◌else◌, Result, Ok, Err, is_some, option_map}
pub use Rattle.std.proofs.Common.{length-append, ◌⊎◌, inl, inr, subst, zero, suc, [], ◌∷◌, option_and_then, ◌+◌, cond}
pub use Rattle.std.proofs.Common.{◌++◌, append-nil, nat_lt, ◌≤◌, IfSome, ltb-true, ◌↔◌, drop, length-take-le}
pub use Rattle.std.proofs.Common.{append_assoc, option_copied, Bor, filter_map, map, get_or, IfOk, nat_eq, MatchResult}
pub use Rattle.std.proofs.Common.{◌/◌, bit_and, tests, min}
pub use Rattle.std.proofs.Math.Bool.{and-true, and_assoc, and_comm}
pub use Rattle.std.proofs.Math.Seq.{take-append-add, take-append_seam}
pub use Rattle.std.proofs.lemmas.Bool.{eqb-true, eqb-false, not-false, or_parts, eq-eqb, cases_eq, ltb-false, leb-true}
pub use Rattle.std.proofs.lemmas.Bool.{lt-ltb, or_left, or_right, cases_lt, both_ways, and_parts, and_from, cases_Bool}
pub use Rattle.std.proofs.lemmas.Bool.{false_from_ne_true, le-leb, ne_eqb, cond-true, cond-false, false≢true, and_right}
pub use Rattle.std.proofs.lemmas.Bool.Decides.{nat_tests}
pub use Rattle.std.proofs.lemmas.Cmp.{tied_itself}
pub use Rattle.std.proofs.lemmas.Grind.{flat_map-append}
pub use Rattle.std.proofs.lemmas.List.{length-take, length-replicate, map-append, length-drop, take_at, drop_at}
pub use Rattle.std.proofs.lemmas.List.{take-append-drop, length-map, take-take, take_all, nil_from_length}
pub use Rattle.std.proofs.lemmas.List.Elements.{filter-append}
pub use Rattle.std.proofs.lemmas.List.Filters.{length-filter_both}
pub use Rattle.std.proofs.lemmas.List.Folds.{list_all-append}
pub use Rattle.std.proofs.lemmas.Map.Keys.{sorted_head, sorted_tail}
pub use Rattle.std.proofs.lemmas.Map.Made.{keys_of-map_values}
pub use Rattle.std.proofs.lemmas.Map.Steps.{set_value_same}
pub use Rattle.std.proofs.lemmas.Option.{same_Some, MatchOption-at_some}
pub use Rattle.std.proofs.lemmas.Result.{err_from_is_err_and}
pub use Rattle.std.specs.BTreeMap.{BTreeMap, IsOrdered, UpdatesBy, WritesThrough, get_by, is_at, insert_entry}
pub use Rattle.std.specs.Cmp.{Equal-is, nat_cmp_total, IsTotalOrder, nat_cmp_is}
pub use Rattle.std.specs.Cmp.Lexicographic.{bytes_decides, texts_ties, nat_list_cmp_total, nat_list_eq_equiv}
pub use Rattle.std.specs.Cmp.Lexicographic.{lists_equiv, slice_cmp, lists_ties, pointwise, same_text}
pub use Rattle.std.specs.FinMap.{nat_cmp-IsAntisymmetric, IsAntisymmetric}
pub use Rattle.std.specs.Int.{bit_at, w32}
pub use Rattle.std.specs.List.{list_any, AllByRecursion, list_all, cons_option, filter, flat_map, slice_get, find}
unfoldable pub use Rattle.std.specs.List.Sorted.{IsStrictlySortedBy}
pub use Rattle.std.specs.Map.{lookup, remove_entry, set_value, keys_of}
pub use Rattle.std.specs.Option.{option_copied_mut}
pub use Rattle.std.specs.Ordering.{nat_cmp, is_eq, ordering_reverse, ordering_then}
pub use Rattle.std.specs.Prelude.{max, OnErr, codes, slice_index}
pub use Rattle.std.specs.Result.{IfErr, IsErrAnd}
pub use Rattle.std.specs.declared.cmp.Ordering.{Ordering}
pub use Rattle.std.specs.declared.cmp.Ordering.TheVariants.{Less, Equal, Greater}
pub use Rattle.sftp_path.proofs.Move.{nothing-at, size-rekeyed, renamed-outside, length-renamed, rekeyed-unique}
pub use Rattle.sftp_path.proofs.Move.{place_cmp-total, place_cmp-same, begins-append, begins-front, begins-itself}
pub use Rattle.sftp_path.proofs.Move.{bytes_cmp-same, parent-entered, begins-is, below-begins}
pub use Rattle.sftp_path.proofs.PathTexts.{components-absolute}
pub use Rattle.sftp_path.proofs.PathTexts.{filter_all, components-steps, list_all-weaker, list_all-octets}
pub use Rattle.sftp_path.proofs.Table.Entries.{count-put_new, count-without, count-found, count-put_again}
pub use Rattle.sftp_path.proofs.Table.Entries.{without-absent}
pub use Rattle.sftp_path.proofs.Table.Laws.{get-put, get-without, get-without_here, InOrder-put, InOrder-without}
pub use Rattle.sftp_path.proofs.Table.Laws.{same_table, get-put_here, get-put_elsewhere, get-retain, InOrder-retain}
pub use Rattle.sftp_path.proofs.Table.Laws.{size-put, size-put_present, get-cons, size-without, get-below, get-empty}
pub use Rattle.sftp_path.proofs.Table.Entries.{all-put_new, all-without, keys-put_again, values-put, keys-put_in_order}
pub use Rattle.sftp_path.proofs.Table.Entries.{get-with_values, InOrder-with_values, with_values-put}
pub use Rattle.sftp_path.specs.Place.{Place, Name, place_cmp, begins, parent, are_names, is_name, name_cmp, same_bytes}
pub use Rattle.sftp_path.specs.Place.{depth_limit, is_below, absolute, is_absolute, is_dot, is_dot_dot, is_step}
unfoldable pub use Rattle.sftp_path.specs.Place.{components, parts, is_good_path}
pub use Rattle.sftp_path.specs.Table.{renamed, NothingFrom}
unfoldable pub use Rattle.sftp_path.specs.Table.{rekeyed}
pub use Rattle.sftp_path.specs.Place.{Split}
pub use Rattle.sftp_path.specs.Table.{InOrder, Table, kept, with_values}
unfoldable pub use Rattle.sftp_path.specs.Table.{get, put, without, retain}
pub use Rattle.sftp_treefile.proofs.Texts.{path_length, target_length, place_is}
pub use Rattle.sftp_treefile.proofs.Texts.Files.{one_file, spelled_plain}
pub use Rattle.sftp_treefile.proofs.Texts.{highest_are, usual_are, raised_are, rows_wider}
pub use Rattle.sftp_treefile.proofs.Texts.Raised.{raised_fit}
pub use Rattle.sftp_treefile.specs.Examples.{blank_bytes, raised_bytes}
pub use Rattle.sftp_treefile.specs.TreeFile.{highest_limits, usual_limits, most_limits, raised_limits}
pub use Rattle.sftp_treefile.specs.TreeFile.{is_root, same_place, is_target, IsOwner, are_bytes, IsKind, AreRows}
pub use Rattle.sftp_treefile.specs.TreeFile.{row_text, IsPlaceText, IsTreeFile, IsSpelled, place_of, is_dir, IsNext}
pub use Rattle.sftp_treefile.specs.TreeFile.{is_first, is_first_row, entry_at, is_dir_at}
unfoldable pub use Rattle.sftp_treefile.specs.TreeFile.{has_dir, spelled}
pub use Rattle.sftp_treefile.specs.TreeFileParts.{IsLast, head_bytes}
pub use Rattle.sftp_treefile.specs.declared.files.Kind.{Kind}
pub use Rattle.sftp_treefile.specs.declared.files.Owner.{Owner}
pub use Rattle.sftp_treefile.specs.declared.files.Row.{Row}
pub use Rattle.sftp_treefile.specs.declared.files.TreeFile.{TreeFile}
pub use Rattle.sftp_treefile.specs.declared.limits.TreeLimits.{TreeLimits}
unfoldable pub use Rattle.sftp_strings.specs.Hexadecimal.{hex}
pub use Rattle.sftp_packets.specs.Spelling.{AreBytes}
pub use Rattle.sftp_packets.specs.declared.attributes.Attrs.{Attrs}
pub use Rattle.sftp_packets.specs.declared.requests.Ask.{Ask}
pub use Rattle.sftp_packets.specs.Layouts.{IsAttrs, IsAsk}
pub use Rattle.sftp_tree.specs.Requests.{asked, has_room_for, HasNode}
pub use Rattle.sftp_tree.specs.Attributes.{directory_owner, changed_owner, changed_content, resized, file_owner}
pub use Rattle.sftp_tree.specs.PlaceCauses.{row, CauseSet, every_cause, is_none, only}
unfoldable pub use Rattle.sftp_tree.specs.PlaceCauses.{no_causes, when, joined}
pub use Rattle.sftp_tree.specs.Changes.{with_changed_file, put_in_its_stead, new_content, with_emptied_file}
pub use Rattle.sftp_tree.specs.Changes.{with_new_file, moved, Plan, carried, no_change, put_node, remove_node, move_node}
pub use Rattle.sftp_tree.specs.Changes.{own_directory, set_file, make_file, empty_file, plan_to_set, plan_to_open}
pub use Rattle.sftp_tree.specs.Changes.{plan_to_name, with_entry}
pub use Rattle.sftp_tree.specs.Changes.{after_pin, after_unpin, overwritten, written, write_fits, written_content}
pub use Rattle.sftp_tree.specs.Changes.{with_written_file, after_write, after_set}
pub use Rattle.sftp_tree.specs.PictureParts.{names_from, place_from, open_after, names_in, place_in}
pub use Rattle.sftp_tree.specs.Items.{entry_of}
pub use Rattle.sftp_tree.specs.Attributes.{shown_child, name_below, child_below}
unfoldable pub use Rattle.sftp_tree.specs.Attributes.{children, listing}
pub use Rattle.sftp_tree.specs.Nesting.{Children, branch, branch_of, flat_of, IsBranch, AreBranches, AreChildren}
pub use Rattle.sftp_tree.specs.Nesting.{IsGrafted, IsSet, IsMoved, placed, flat, IsFilled}
unfoldable pub use Rattle.sftp_tree.specs.Nesting.{have_at_most}
pub use Rattle.sftp_tree.specs.Nesting.{nodes_of}
pub use Rattle.sftp_tree.specs.Attributes.{truncates, excludes}
pub use Rattle.sftp_tree.specs.Picture.{IsStart, entry_naming, naming, kind_of, rows_after, is_given_or_next}
pub use Rattle.sftp_tree.specs.Picture.{given_with, is_numbered, blank, root_owner, file_of, rows_of}
unfoldable pub use Rattle.sftp_tree.specs.Picture.{picture}
pub use Rattle.sftp_tree.specs.PictureExamples.{user_owner, linked, two_names, two_names_bytes}
pub use Rattle.sftp_tree.specs.PictureParts.{only_root, content_of, contents_of, node_of, names_of, Firsts, firsts_with}
pub use Rattle.sftp_tree.specs.PictureParts.{known_kind, numbered_from, tree_of, known_node, numbers_from, known_number}
pub use Rattle.sftp_tree.specs.PictureParts.{IsKnown, Stores, HaveRoom, AreWithEntry, IsGrown}
pub use Rattle.sftp_tree.specs.PlaceCauses.{making_causes, needing_causes, link_causes, file_causes, unlinking_causes}
pub use Rattle.sftp_tree.specs.PlaceCauses.{leaving_causes, giving_causes, moving_causes, clashing_causes}
pub use Rattle.sftp_tree.specs.PlaceCauses.{replacing_causes, exchanging_causes, goes_inside, are_one, are_one_file}
pub use Rattle.sftp_tree.specs.PlaceCauses.{directory_causes, removing_causes, opening_causes}
pub use Rattle.sftp_tree.specs.Plans.{CanMake, CanPut, CanTake, CanMove, CanDo, AreAny, planned, changed}
pub use Rattle.sftp_tree.specs.Plans.{IsPlanned}
pub use Rattle.sftp_tree.specs.Told.{IsFree, stat_ask, IsRefusal}
unfoldable pub use Rattle.sftp_tree.specs.Told.{in_set}
pub use Rattle.sftp_tree.specs.Room.{has_room, size_fits, move_fits, has_room_for_file, reaches_at_most, OwnsBy}
pub use Rattle.sftp_tree.specs.Stepping.{left_of, is_done}
pub use Rattle.sftp_tree.specs.Nesting.{branch_seen, node_seen}
pub use Rattle.sftp_tree.specs.Stepping.{meeting, StaysAtLink, LendsEnd}
pub use Rattle.sftp_tree.specs.StoredFiles.{IsChanged, is_held_still, where_held, contents, pin_count_at, pins_of}
pub use Rattle.sftp_tree.specs.StoredFiles.{AreCounted, file_named, IsChangedWhereNamed, with_a_name, without_a_name}
pub use Rattle.sftp_tree.specs.StoredFiles.{with_content_made, without_pins, unpinned, seen, with_attributes_set}
pub use Rattle.sftp_tree.specs.StoredFiles.{with_a_pin, without_a_pin, with_bytes_written}
unfoldable pub use Rattle.sftp_tree.specs.Told.{listing_to, shown_to, text_to, file_to}
pub use Rattle.sftp_tree.specs.Nesting.{IsAt, IsLentAt, Standing, root_of, AreAlong, DescendTo, IsDirAt}
pub use Rattle.sftp_tree.specs.Tree.{Tree, WellFormed, IsKept, limits, node_at, content_at, is_taken, is_directory}
pub use Rattle.sftp_tree.specs.Tree.{is_link, Names, with_node, without_node, names_file, times_named, with_content}
pub use Rattle.sftp_tree.specs.Tree.{times_pinned, is_pinned, Pins, is_named, with_pins, IsContent, trim, raised}
pub use Rattle.sftp_tree.specs.Tree.{IsNode, is_held, trimmed, Files, IsPin, depth_fits, content_fits, IsTrimmed}
pub use Rattle.sftp_tree.specs.Tree.{files_fit, entries_fit, depths_fit, links_fit, link_fits, home_fits, numbers_fit}
pub use Rattle.sftp_tree.specs.Tree.{HasFile, with_pin, without_pin, is_file}
unfoldable pub use Rattle.sftp_tree.specs.Tree.{fits, has_entries}
pub use Rattle.sftp_tree.specs.Walk.{Meeting, is_last, start_of, steps_of, looked_limit, link_limit, enters, ends}
pub use Rattle.sftp_tree.specs.Walk.{fails, through, met_link, met, going_on}
unfoldable pub use Rattle.sftp_tree.specs.Walk.{reached, meets, looked, walk, walk_parts, looked_parts}
pub use Rattle.sftp_tree.specs.Stepping.{IsPlaceOf}
pub use Rattle.sftp_tree.specs.PictureParts.{text_of, rows_from, firsts_from, AreWritable}
pub use Rattle.sftp_tree.specs.declared.causes.Cause.{Cause}
pub use Rattle.sftp_tree.specs.declared.causes.Cause.TheVariants.{BadFlags, BadPath, NoEntry, Exists, IsDir, NotLink}
pub use Rattle.sftp_tree.specs.declared.causes.Cause.TheVariants.{NotFile, NotEmpty, Root, Inside, NoRoom, NotDir, Loop}
pub use Rattle.sftp_tree.specs.declared.entries.directories.Child.{Child}
pub use Rattle.sftp_tree.specs.declared.entries.growing.Opened.{Opened}
pub use Rattle.sftp_tree.specs.declared.file_contents.Content.{Content}
pub use Rattle.sftp_tree.specs.declared.file_contents.Stored.{Stored}
pub use Rattle.sftp_tree.specs.declared.listings.Item.{Item}
pub use Rattle.sftp_tree.specs.declared.nodes.Node.{Node}
pub use Rattle.sftp_tree.specs.declared.nodes.Node.TheVariants.{Dir, File, Link}
pub use Rattle.sftp_tree.specs.declared.stepping.Met.TheVariants.{Ends, Through}
