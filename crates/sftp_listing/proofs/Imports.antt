-- The names that the proofs of this crate take from below it and from its definitions, passed on from one place, so
-- that a proof has a line or two of imports in place of twenty. Declares nothing.
pub use Rattle.std.proofs.Common.{◌≡◌, ℕ, ◌+◌, ◌^◌, ◌<◌, List, [], ◌++◌, length, Some, refl, sym, subst, arith, lit<}
pub use Rattle.std.proofs.Common.{◌&&◌, false, None, IsTrue, true, ◌==◌, nat_lt, zero, suc, ◌≤◌, Bool, ◌∷◌, Option, ap}
pub use Rattle.std.proofs.Common.{◌∙◌, ◌||◌, not, nat_le, leb-true, take, nat_eq, cond, eq-eqb, Result, Ok, Err}
pub use Rattle.std.proofs.Common.{is_some, ◌↔◌, drop, ◌-◌, map, get_or, IsSome, IfOk, ltb-true, IfErr, append_assoc}
pub use Rattle.std.proofs.Common.{option_copied, Bor, IfSome, IfNone, rules}
pub use Rattle.std.proofs.lemmas.Bool.{and_from, and_parts, ltb-false}
pub use Rattle.std.proofs.lemmas.List.{length-append, length-take, take-append-drop, take_more, take_all, take_min}
pub use Rattle.std.proofs.lemmas.List.{length-map, append-nil, length-set, length-replicate}
pub use Rattle.std.proofs.lemmas.List.Folds.{list_any_more, list_any-append, list_all-append}
pub use Rattle.std.specs.Cmp.Lexicographic.{nat_list_eq_equiv, nat_list_cmp_total, bytes_decides, texts_ties, pointwise}
pub use Rattle.std.specs.List.{AllByRecursion, list_any, list_all, insert}
pub use Rattle.std.specs.Map.{keys_of, remove_entry}
pub use Rattle.std.specs.Ordering.{nat_cmp, is_eq}
pub use Rattle.std.specs.declared.cmp.Ordering.TheVariants.{Equal, Less, Greater}
pub use Rattle.sftp_path.proofs.Move.{bytes_cmp-same, place_cmp-same}
pub use Rattle.sftp_path.proofs.Table.Entries.{without-absent}
pub use Rattle.sftp_path.proofs.Table.Laws.{InOrder-put, same_table, InOrder-retain, InOrder-without, get-without}
pub use Rattle.sftp_path.proofs.Table.Laws.{InOrder-empty, get-empty, get-cons, get-below, get-retain}
pub use Rattle.sftp_path.specs.Place.{Name, same_bytes, Place, place_cmp, name_cmp, is_name}
pub use Rattle.sftp_path.specs.Table.{InOrder, kept}
unfoldable pub use Rattle.sftp_path.specs.Table.{get, put, retain, without}
pub use Rattle.sftp_tree.proofs.PlaceTables.{each-get, get-each, each-all}
pub use Rattle.sftp_tree.specs.Items.{entry_of}
pub use Rattle.sftp_tree.specs.declared.listings.Item.{Item}
pub use Rattle.sftp_packets.specs.declared.attributes.Attrs.{Attrs}
pub use Rattle.sftp_listing.specs.Marked.{item_of, first_items, name_of, first_names}
pub use Rattle.sftp_listing.specs.Left.{Left, names_in, are_some_left, struck, is_among, are_distinct, same_attributes}
pub use Rattle.sftp_listing.specs.Left.{has_attributes, is_left, IsItem, is_plain, IsLeft}
pub use Rattle.sftp_listing.specs.Marked.{unmarked, ArePaired}
