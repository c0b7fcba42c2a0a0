-- The names that the proofs of this crate take from below it and from its definitions, passed on from one place, so
-- that a proof has a line or two of imports in place of twenty. Declares nothing.
pub use Rattle.std.proofs.Common.{◌≡◌, ℕ, ◌+◌, ◌^◌, ◌<◌, List, [], ◌++◌, length, Some, refl, sym, subst, arith, lit<}
pub use Rattle.std.proofs.Common.{◌&&◌, false, None, IsTrue, true, ◌==◌, nat_lt, zero, suc, ◌*◌, ◌≤◌, Bool, ◌∷◌, Option}
pub use Rattle.std.proofs.Common.{ap, ◌∙◌, inl, inr, ◌||◌, not, nat_le, leb-true, ◌≢◌, if◌then◌else◌, min, take, nat_eq}
pub use Rattle.std.proofs.Common.{option_map, cond, eq-eqb, Result, Ok, Err, is_some, unwrap_or, ◌↔◌, drop, ◌-◌, ◌⊎◌}
pub use Rattle.std.proofs.Common.{map, get_or, zero-add, IsSome, IfOk, OnErr, ltb-true, IfErr, OnOk, option_copied}
pub use Rattle.std.proofs.Common.{IfSome, ◌/◌, lit≤}
pub use Rattle.std.proofs.Math.Bool.{and-false}
pub use Rattle.std.proofs.Math.Nat.{mod-lt}
pub use Rattle.std.proofs.lemmas.Bool.{and_from, not-false, both_ways, eqb-true, lt-ltb, and_parts, le-leb, ne_eqb}
pub use Rattle.std.proofs.lemmas.Bool.{cases_eq, ltb-false, or_right, and_cases, true≢false, eqb-false, and_right}
pub use Rattle.std.proofs.lemmas.Bool.{not-true, not_from_true}
pub use Rattle.std.proofs.lemmas.List.{length-append, length-take, length-drop, take-append-drop}
pub use Rattle.std.proofs.lemmas.Map.Text.{is_eq-slice_cmp}
pub use Rattle.std.proofs.lemmas.Option.{same_Some}
pub use Rattle.std.proofs.lemmas.Result.{IfOk-weaker, err_from_is_err_and}
pub use Rattle.std.proofs.lemmas.Slice.Eq.{bytes_eq-Decides}
pub use Rattle.std.specs.BTreeMap.{is_at}
pub use Rattle.std.specs.Cmp.{IsTotalOrder, nat_cmp_total, nat_eq_equiv, Equal-is}
pub use Rattle.std.specs.Cmp.Lexicographic.{nat_list_eq_equiv, nat_list_cmp_total, bytes_decides}
pub use Rattle.std.specs.FinMap.{nat_cmp-IsAntisymmetric, IsAntisymmetric}
pub use Rattle.std.specs.Int.{w32, w64, from_be_bytes, byte_at, bytes_high_first}
pub use Rattle.std.specs.List.{AllByRecursion, flat_map, list_any, list_all, filter}
pub use Rattle.std.specs.Map.{lookup, keys_of}
pub use Rattle.std.specs.Ordering.{nat_cmp, is_eq}
pub use Rattle.std.specs.Prelude.{codes, bytes_eq}
pub use Rattle.std.specs.declared.cmp.Ordering.{Ordering}
pub use Rattle.std.specs.declared.cmp.Ordering.TheVariants.{Equal}
pub use Rattle.sftp_path.proofs.Move.{bytes_cmp-same, place_cmp-same, place_cmp-total}
pub use Rattle.sftp_path.proofs.Table.Entries.{one_if, count-without, count-found}
pub use Rattle.sftp_path.proofs.Table.Entries.{without-absent}
pub use Rattle.sftp_path.proofs.Table.Laws.{get-put, get-put_here, InOrder-put, same_table, size-put, InOrder-retain}
pub use Rattle.sftp_path.proofs.Table.Laws.{InOrder-without, size-put_present, size-without, get-without, InOrder-empty}
pub use Rattle.sftp_path.proofs.Table.Laws.{get-empty, get-cons, get-from_entries, InOrder-from_entries}
pub use Rattle.sftp_path.proofs.Table.Laws.{get-without_elsewhere}
pub use Rattle.sftp_path.specs.Place.{Name, same_bytes, bytes_cmp, Place, place_cmp, name_cmp, absolute, is_name}
pub use Rattle.sftp_path.specs.Table.{Table, InOrder, size, count}
unfoldable pub use Rattle.sftp_path.specs.Table.{get, put, retain, from_entries}
pub use Rattle.sftp_tree.proofs.CauseLaws.{outcome-is, free-led, free-at, lost-first, exit}
pub use Rattle.sftp_tree.proofs.CauseLaws.{none-each, each-none, fewer}
pub use Rattle.sftp_tree.proofs.KeptTrees.{trimmed-already}
pub use Rattle.sftp_tree.proofs.Limits.{Stands, fits-parts, fits-from}
pub use Rattle.sftp_tree.proofs.PlaceTables.{each-get, each-put, get-each, each-retain, each-all}
pub use Rattle.sftp_tree.proofs.Requests.Rows.{PathsLeadWell, outcome-stands, pins-stay, limits-stay}
pub use Rattle.sftp_tree.proofs.WellFormedTrees.{bytes-fit, bytes-dropped}
pub use Rattle.sftp_packets.specs.Layouts.{IsAsk}
pub use Rattle.sftp_tree.specs.Attributes.{changed_content, resized, said, shown, shown_content}
pub use Rattle.sftp_tree.specs.PlaceCauses.{CauseSet, allows, allow, is_none, every_cause, only, row}
unfoldable pub use Rattle.sftp_tree.specs.PlaceCauses.{no_causes, when}
pub use Rattle.sftp_tree.specs.Changes.{bytes_at, overwritten, written_content, after_write, after_set}
pub use Rattle.sftp_tree.specs.Changes.{IsRoomRefusal, after_pin, write_fits}
pub use Rattle.sftp_tree.specs.Items.{entry_of}
pub use Rattle.sftp_tree.specs.Attributes.{listing}
pub use Rattle.sftp_tree.specs.Attributes.{truncates, excludes}
pub use Rattle.sftp_tree.specs.PlaceCauses.{opening_causes, needing_causes, link_causes}
pub use Rattle.sftp_tree.specs.Told.{IsFree, stat_ask}
pub use Rattle.sftp_tree.specs.Requests.{Told, done, led_to, told_at, new_led, follows, has_step, shown_at, path_of}
unfoldable pub use Rattle.sftp_tree.specs.Requests.{led, outcome}
pub use Rattle.sftp_tree.specs.Room.{size_fits}
pub use Rattle.sftp_tree.specs.Tree.{limits, IsContent, content_at, content_fits, with_content, Files, Tree, Pins}
pub use Rattle.sftp_tree.specs.Tree.{IsNode, HasFile, node_at, is_pinned, times_pinned, with_pin, WellFormed, IsPin}
pub use Rattle.sftp_tree.specs.Tree.{trim, IsKept, with_pins, without_pin, is_link, link_fits, Names, is_named}
pub use Rattle.sftp_tree.specs.Tree.{is_directory, depth_fits}
unfoldable pub use Rattle.sftp_tree.specs.Tree.{fits}
pub use Rattle.sftp_tree.specs.Walk.{reached}
pub use Rattle.sftp_tree.specs.declared.causes.Cause.{Cause}
pub use Rattle.sftp_tree.specs.declared.causes.Cause.TheVariants.{Unknown, NoRoom, Exists, IsDir, BadFlags, BadHandle}
pub use Rattle.sftp_tree.specs.declared.causes.Cause.TheVariants.{NotOpenFor, NoEntry, NotLink, NotDir, Loop}
pub use Rattle.sftp_tree.specs.declared.causes.Refused.{Refused}
pub use Rattle.sftp_tree.specs.declared.file_contents.Content.{Content}
pub use Rattle.sftp_tree.specs.declared.nodes.Node.{Node}
pub use Rattle.sftp_treefile.specs.TreeFile.{are_bytes}
pub use Rattle.sftp_treefile.specs.declared.limits.TreeLimits.{TreeLimits}
pub use Rattle.sftp_packets.specs.Spelling.{no_attributes}
pub use Rattle.sftp_packets.specs.Spelling.{string, attributes, name_item, FitsString, FitsNameItem, AreBytes}
pub use Rattle.sftp_packets.specs.Requests.{FitsAsk, asked_handle}
pub use Rattle.sftp_packets.specs.Spelling.{handle_limit, uint32, uint64, packet_limit}
pub use Rattle.sftp_packets.specs.Packets.{HasSpelling}
unfoldable pub use Rattle.sftp_packets.specs.Packets.{spelling}
pub use Rattle.sftp_packets.specs.declared.attributes.Attrs.{Attrs}
pub use Rattle.sftp_packets.specs.declared.names.NameItem.{NameItem}
pub use Rattle.sftp_packets.specs.declared.open_flags.OpenFlags.{OpenFlags}
pub use Rattle.sftp_packets.specs.declared.replies.Answer.{Answer}
pub use Rattle.sftp_packets.specs.declared.replies.Answer.TheVariants.{Data, Status, Handle}
pub use Rattle.sftp_packets.specs.declared.requests.Ask.{Ask}
pub use Rattle.sftp_packets.specs.declared.requests.Ask.TheVariants.{Readdir}
pub use Rattle.sftp_packets.specs.declared.packets.Packet.TheVariants.{Reply as reply_packet, Request as request_packet}
pub use Rattle.sftp_packets.specs.declared.packets.Reply.{Reply}
pub use Rattle.sftp_packets.specs.declared.packets.Request.{Request}
pub use Rattle.sftp_handles.specs.Allowed.{Does, Allowed, stepped, Refuses}
unfoldable pub use Rattle.sftp_handles.specs.Allowed.{step}
pub use Rattle.sftp_handles.specs.Payloads.{IsSpelledAnswer, IsReplyOf, status_of, only_name, IsAnswered}
pub use Rattle.sftp_handles.specs.Clash.{Touched, untouched, everything, share, is_barrier, touched_through, touched_by}
pub use Rattle.sftp_handles.specs.Clash.{ComesFirst, reads_file, writes_file, takes_names, may_change, bars, bars_by}
unfoldable pub use Rattle.sftp_handles.specs.Clash.{touched, clash}
pub use Rattle.sftp_handles.specs.Slots.{item_of, first_items, names_in_reply, AreFirst, AreFirstNames, AreUpTo}
pub use Rattle.sftp_handles.specs.Slots.{found_file, IsWritable, with_room, refusing, granted, read_said}
pub use Rattle.sftp_handles.specs.Slots.{named, handles_in}
pub use Rattle.sftp_handles.specs.Slots.{IsListing, gives_names, with_struck}
pub use Rattle.sftp_handles.specs.State.{Left, Handles, open_at, is_open, with_open, kept_flags, without_open}
pub use Rattle.sftp_handles.specs.State.{opens_file, times_open}
unfoldable pub use Rattle.sftp_handles.specs.State.{pins_of}
pub use Rattle.sftp_handles.specs.Slots.{IsDone, IsJudged, refusal_code, IsRefusal, IsJudgedCode}
pub use Rattle.sftp_handles.specs.Payloads.{purpose_of}
pub use Rattle.sftp_handles.specs.Clash.{is_opening, asked_state, IsOpenedBy, IsAskable, IsAnswerable}
pub use Rattle.sftp_handles.specs.Payloads.{FitsSaid, FitsTwice, FitsData, HasNewName, said_in, answer_of, Carries}
pub use Rattle.sftp_handles.specs.Replies.{Said, says, names_in, names_given, refuses, is_new_handle, gives_some}
pub use Rattle.sftp_handles.specs.Replies.{struck, is_among, are_some_left, has_code, same_attributes}
pub use Rattle.sftp_handles.specs.RequestRows.{row_of, Row, causes_of, said_of, Change, nothing, rewrites, leaves}
pub use Rattle.sftp_handles.specs.RequestRows.{closes, change_of, change_file, with_file_room, start_of, may_write}
pub use Rattle.sftp_handles.specs.RequestRows.{unless_open_for, goes_to_end, read_from, with_handle_room, said_by}
unfoldable pub use Rattle.sftp_handles.specs.RequestRows.{limits_data}
pub use Rattle.sftp_handles.specs.Allowed.{causes_by, said_to, after_by, changed, flags_of, opened_by}
pub use Rattle.sftp_handles.specs.Allowed.{with_new, path_causes, path_said, seen_by}
unfoldable pub use Rattle.sftp_handles.specs.Allowed.{causes, after, told_to, answers}
pub use Rattle.sftp_handles.specs.State.{a_file, a_listing, Needed, anything, Seen, seen_file, seen_among, file}
unfoldable pub use Rattle.sftp_handles.specs.State.{seen}
pub use Rattle.sftp_handles.specs.Slots.{handles_from, slab_handles, serial_before}
unfoldable pub use Rattle.sftp_handles.specs.Slots.{slot_name}
pub use Rattle.sftp_handles.specs.State.{State, Good, IsItem, is_plain, has_handle_left, settled, IsOpen, IsHandle}
pub use Rattle.sftp_handles.specs.State.{IsLeft, handles_fit, state_fits}
pub use Rattle.sftp_handles.specs.declared.byte_range.ByteRange.{ByteRange}
pub use Rattle.sftp_handles.specs.declared.opens.Open.{Open, Open as Opened}
pub use Rattle.sftp_handles.specs.declared.opens.Open.TheVariants.{File, Listing}
