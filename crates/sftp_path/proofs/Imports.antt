-- The names that the proofs of this crate take from below it and from its definitions, passed on from one place, so
-- that a proof has a line or two of imports in place of twenty. Declares nothing.
pub use Rattle.std.proofs.Common.{◌≡◌, ◌≢◌, ◌+◌, Bool, true, false, [], ◌∷◌, ◌++◌, length, drop, map, refl, sym, ap}
pub use Rattle.std.proofs.Common.{◌∙◌, arith, Some, None, inl, inr, true≢false, if◌then◌else◌, ◌&&◌, ℕ, suc, nat_eq}
pub use Rattle.std.proofs.Common.{nat_lt, take, ◌<◌, List, Option, ◌≤◌, cond, not, ◌==◌, nat_le, get_or, Fits, w8}
pub use Rattle.std.proofs.Common.{filter, zero-add, zero, ◌-◌, subst, is_some}
pub use Rattle.std.proofs.Math.Bool.{and_assoc, and-true}
pub use Rattle.std.proofs.lemmas.Bool.{cases_Bool, and_parts, false_from_ne_true, false≢true, lt-ltb, eq-eqb, ne_eqb}
pub use Rattle.std.proofs.lemmas.Bool.{cond-true, and_from}
pub use Rattle.std.proofs.lemmas.Cmp.{tied_itself, eq_by_cmp_equiv}
pub use Rattle.std.proofs.lemmas.Grind.{common_steps}
pub use Rattle.std.proofs.lemmas.List.{append-nil, length-append, map-append, append_assoc, at_drop_more, at_drop_all}
pub use Rattle.std.proofs.lemmas.List.{drop_all, length-drop, take_rest, length-map}
pub use Rattle.std.proofs.lemmas.Map.{lookup-none, lookup-remove_entry}
pub use Rattle.std.proofs.lemmas.Map.Keys.{sorted_tail, sorted_head}
pub use Rattle.std.specs.BTreeMap.{insert_entry, is_at}
pub use Rattle.std.specs.Bool.{IsTrue}
pub use Rattle.std.specs.Cmp.{Equal-is, IsTotalOrder, nat_cmp_total}
pub use Rattle.std.specs.Cmp.Lexicographic.{nat_list_cmp_total, nat_list_eq_equiv}
pub use Rattle.std.specs.FinMap.{IsAntisymmetric, nat_cmp-IsAntisymmetric, slice_cmp-IsAntisymmetric}
pub use Rattle.std.specs.List.{list_all, flat_map, position, position_or_len}
unfoldable pub use Rattle.std.specs.List.Sorted.{IsStrictlySortedBy}
pub use Rattle.std.specs.Map.{keys_of, lookup, remove_entry}
pub use Rattle.std.specs.Ordering.{is_eq, ordering_then, match_ordering, is_lt, nat_cmp}
pub use Rattle.std.specs.declared.cmp.Ordering.{Ordering}
pub use Rattle.std.specs.declared.cmp.Ordering.TheVariants.{Equal, Less, Greater}
pub use Rattle.sftp_path.specs.Place.{begins_at_slash, parts_after}
pub use Rattle.sftp_path.specs.Table.{renamed, renamed_entry, NothingFrom}
unfoldable pub use Rattle.sftp_path.specs.Table.{rekeyed}
pub use Rattle.sftp_path.specs.Table.{Table, InOrder, count, size, kept, with_values}
unfoldable pub use Rattle.sftp_path.specs.Table.{get, put, without, from_entries, retain}
pub use Rattle.sftp_path.specs.Place.{IsTextOf, with_slashes}
