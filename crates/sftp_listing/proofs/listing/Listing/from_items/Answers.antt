use Rattle.sftp_listing.proofs.Imports.{rules, ◌∙◌}
use Rattle.sftp_listing.proofs.MarkedItems.{first-marks, first-marked, all-false}
use Rattle.sftp_listing.proofs.listing.Listing.from_items.Goals as goal

pub invariant_of-result : goal.invariant_of-result
invariant_of-result c =
    let items = c.args.items.items in
    rw (c.from_vec.ensures.items, c.len-left.ensures)
    (rw c.args.items.ok.0
    (first-marked items c.resize.new.self.items
    (all-false items c.new-marks.result.items c.resize.new.self.items c.new-marks.result.len c.len-left.result
    c.new-marks.ensures.items c.new-marks.ensures.len (c.len-left.ensures ∙ c.args.items.ok.0)
    (c.in_ok-resize.ensures.items_if_clones_equal (λ y clones. search rules)))
    c.requires))

pub returns : goal.returns
returns c =
    let items = c.args.items.items in
    rw c.from_vec.ensures.items
    (first-marks items c.resize.new.self.items
    (all-false items c.new-marks.result.items c.resize.new.self.items c.new-marks.result.len c.len-left.result
    c.new-marks.ensures.items c.new-marks.ensures.len (c.len-left.ensures ∙ c.args.items.ok.0)
    (c.in_ok-resize.ensures.items_if_clones_equal (λ y clones. search rules))))
