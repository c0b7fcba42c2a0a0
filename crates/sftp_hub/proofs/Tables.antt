-- What a table of ids keeps where one is taken back.
use Rattle.std.proofs.Common.{◌≡◌, ◌≢◌, ◌&&◌, not, cond, ℕ, Bool, true, false, List, Option, Some, None, refl, sym, ap, ◌∙◌, inl, inr, is_some}
use Rattle.std.specs.Prelude.{nat_eq}
use Rattle.std.proofs.lemmas.Bool.{cases_eq, eq-eqb, ne_eqb}
use Rattle.std.proofs.lemmas.Option.{same_Some}
use Rattle.slab.specs.Slab.{Slab, get, Updates}
use Rattle.sftp_hub.specs.declared.ids.Whose.{Whose}
use Rattle.sftp_hub.specs.Ids.{AreIds, joint_of, is_used}

pub struck-or : (b : Bool) (found : Option (Unit {0})) → is_some (cond b None found) ≡ (not b && is_some found)
struck-or true found = refl
struck-or false found = refl

true-false : (b : Bool) → b ≡ true → b ≡ false → ⊥
true-false b on off = absurd cc

-- what stands after an id was taken back stood before, at another id
still : (old new : Slab Whose) (id : ℕ) → Updates old new id None → (other : ℕ) (w : Whose) → get new other ≡ Some w
    → (other ≢ id) × (get old other ≡ Some w)
still old new id updates other w at =
    elim (cases_eq other id) [
      | inl same ↦ absurd (let a : None ≡ Some w = sym updates.changed ∙ ap (get new) (sym same) ∙ at in cc)
      | inr away ↦ (away, sym (updates.others other away) ∙ at)
    ]

and-right : (x y : Bool) → x ≡ false → y ≡ true → (not x && y) ≡ true
and-right x y off on = rw (off, on) refl

and-parts : (x y : Bool) → (not x && y) ≡ true → (x ≡ false) × (y ≡ true)
and-parts true y is = absurd cc
and-parts false y is = (refl, is)

pub AreIds-taken : (old new : Slab Whose) (used fewer : List (ℕ × Unit {0})) (id : ℕ) (whose : Whose)
    → AreIds old used → get old id ≡ Some whose → Updates old new id None
    → ((joint : ℕ) → is_used fewer joint ≡ (not (nat_eq (joint_of whose) joint) && is_used used joint)) → AreIds new fewer
AreIds-taken old new used fewer id whose are before updates struck = record {
  fits = λ other w at. are.fits other w (still old new id updates other w at).1;
  known = λ other w at. known-by other w (still old new id updates other w at);
  only = λ joint is. only-by joint (and-parts (nat_eq (joint_of whose) joint) (is_used used joint) (sym (struck joint) ∙ is));
  apart = λ one other v w at_one at_other same. are.apart one other v w (still old new id updates one v at_one).1
      (still old new id updates other w at_other).1 same;
}
  where
    known-by : (other : ℕ) (w : Whose) → (other ≢ id) × (get old other ≡ Some w) → is_used fewer (joint_of w) ≡ true
    known-by other w at =
        struck (joint_of w) ∙ and-right (nat_eq (joint_of whose) (joint_of w)) (is_used used (joint_of w))
        (ne_eqb (joint_of whose) (joint_of w) (λ same. absurd (at.0 (are.apart other id w whose at.1 before (sym same)))))
        (are.known other w at.1)

    only-by : (joint : ℕ) → (nat_eq (joint_of whose) joint ≡ false) × (is_used used joint ≡ true)
        → (i : ℕ) × (w : Whose) × (get new i ≡ Some w) × (joint_of w ≡ joint)
    only-by joint is =
        let found = are.only joint is.1 in
        let other : found.0 ≢ id = λ same. absurd (true-false (nat_eq (joint_of whose) joint)
        (eq-eqb (joint_of whose) joint (ap joint_of (same_Some whose found.1 (sym before ∙ ap (get old) (sym same) ∙ found.2)) ∙ found.3)) is.0) in
        (found.0, found.1, updates.others found.0 other ∙ found.2, found.3)
