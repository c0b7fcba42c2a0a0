-- Tables of handles.
use Rattle.sftp_handles.proofs.Imports.{◌≡◌, ℕ, Bool, true, false, cond, List, [], ◌∷◌, length, Option, None, Some}
use Rattle.sftp_handles.proofs.Imports.{refl, sym, ap, subst, ◌∙◌, arith, bytes_eq, is_some, lookup, keys_of}
use Rattle.sftp_handles.proofs.Imports.{AllByRecursion, nat_list_cmp_total, nat_list_eq_equiv, is_eq-slice_cmp}
use Rattle.sftp_handles.proofs.Imports.{bytes_eq-Decides, bytes_cmp, get, from_entries, size, bytes_cmp-same}
use Rattle.sftp_handles.proofs.Imports.{get-empty, get-cons, get-put, get-without, get-from_entries}
use Rattle.sftp_handles.proofs.Imports.{InOrder-from_entries, InOrder-put, InOrder-without, size-put, same_table}
use Rattle.sftp_handles.proofs.Imports.{Open, open_at, with_open, without_open, named, handles_in}
use Rattle.std.specs.Borrow.{MutBor}
use Rattle.std.specs.List.{IsDistinct}
use Rattle.std.specs.Map.{KeepsOthers}
use Rattle.std.specs.Option.{OnSome, option_copied_mut}
pub mod SlotTables
pub mod NewHandles

-- ==== Tables of handles as they are kept in a hash map, by the bytes of its keys.

-- what is lent is there
pub lent-found : (lent : Option (MutBor Open)) (found : Option Open) (P : Type 0) → option_copied_mut lent ≡ found
    → (is_some found ≡ true → P) → OnSome lent P
lent-found None found P is then = tt
lent-found (Some it) found P is then = then (ap is_some (sym is))

nothing : (o : Option Open) → is_some o ≡ false → o ≡ None
nothing None is = refl
nothing (Some it) is = absurd cc

module _ {K : Type 0} (f : K → List ℕ) where
  -- a key that has these bytes
  abbrev pub has_bytes : List ℕ → K → Bool
  has_bytes name k = bytes_eq name (f k)

  -- keys of the same bytes
  abbrev pub alike : K → K → Bool
  alike x y = bytes_eq (f x) (f y)

  named-found : (name : List ℕ) (es : List (K × Open))
      → get bytes_cmp (named f es) name ≡ lookup (has_bytes name) es
  named-found name [] = get-empty bytes_cmp name
  named-found name (e ∷ es) =
      get-cons bytes_cmp (f e.0, e.1) (named f es) name
      ∙ (ap (λ b. cond b (Some e.1) (get bytes_cmp (named f es) name)) (is_eq-slice_cmp name (f e.0))
      ∙ ap (cond (bytes_eq name (f e.0)) (Some e.1)) (named-found name es))

  -- what is found under a name
  pub open-found : (name : List ℕ) (es : List (K × Open))
      → open_at (handles_in f es) name ≡ lookup (has_bytes name) es
  open-found name es = get-from_entries bytes_cmp nat_list_cmp_total (named f es) name ∙ named-found name es

  -- nothing is open under a name that the map does not contain
  pub not-open : (name : List ℕ) (es : List (K × Open)) (contains : Bool)
      → contains ≡ is_some (lookup (has_bytes name) es) → contains ≡ false → open_at (handles_in f es) name ≡ None
  not-open name es contains found missing =
      open-found name es ∙ nothing (lookup (has_bytes name) es) (sym found ∙ missing)

  module _ (old new : List (K × Open)) (name : List ℕ) (w : Option Open)
      (here : lookup (has_bytes name) new ≡ w)
      (others : KeepsOthers alike (has_bytes name) old new) where
    elsewhere : (at : List ℕ) → bytes_eq name at ≡ false → lookup (has_bytes at) new ≡ lookup (has_bytes at) old
    unfolding KeepsOthers
    elsewhere at apart =
        others (has_bytes at) (λ x y. nat_list_eq_equiv.congr at (f x) (f y))
        (λ k same.
        nat_list_eq_equiv.symm at (f k)
        ∙ (sym (nat_list_eq_equiv.congr name (f k) at same) ∙ apart))

    changed-found : (b : Bool) (at : List ℕ) → bytes_eq name at ≡ b
        → lookup (has_bytes at) new ≡ cond b w (lookup (has_bytes at) old)
    changed-found true at same = subst (λ n. lookup (has_bytes n) new ≡ w) ((bytes_eq-Decides name at).0 same) here
    changed-found false at apart = elsewhere at apart

    changed-open : (at : List ℕ)
        → open_at (handles_in f new) at ≡ cond (bytes_eq name at) w (open_at (handles_in f old) at)
    changed-open at =
        open-found at new ∙ (changed-found (bytes_eq name at) at refl
        ∙ ap (cond (bytes_eq name at) w) (sym (open-found at old)))

  -- something is open under the name now
  pub changed-put : (old new : List (K × Open)) (name : List ℕ) (it : Open)
      → lookup (has_bytes name) new ≡ Some it → KeepsOthers alike (has_bytes name) old new
      → handles_in f new ≡ with_open (handles_in f old) name it
  changed-put old new name it here others =
      same_table bytes_cmp nat_list_cmp_total bytes_cmp-same (handles_in f new) (with_open (handles_in f old) name it)
      (InOrder-from_entries bytes_cmp nat_list_cmp_total (named f new))
      (InOrder-put bytes_cmp nat_list_cmp_total (handles_in f old) name it
      (InOrder-from_entries bytes_cmp nat_list_cmp_total (named f old)))
      (λ at.
      changed-open old new name (Some it) here others at
      ∙ (ap (λ b. cond b (Some it) (open_at (handles_in f old) at))
      (nat_list_eq_equiv.symm name at ∙ sym (is_eq-slice_cmp at name))
      ∙ sym (get-put bytes_cmp nat_list_cmp_total (handles_in f old) name it at)))

  -- nothing is open under the name now
  pub changed-without : (old new : List (K × Open)) (name : List ℕ)
      → lookup (has_bytes name) new ≡ None → KeepsOthers alike (has_bytes name) old new
      → handles_in f new ≡ without_open (handles_in f old) name
  changed-without old new name here others =
      same_table bytes_cmp nat_list_cmp_total bytes_cmp-same (handles_in f new) (without_open (handles_in f old) name)
      (InOrder-from_entries bytes_cmp nat_list_cmp_total (named f new))
      (InOrder-without bytes_cmp (handles_in f old) name
      (InOrder-from_entries bytes_cmp nat_list_cmp_total (named f old)))
      (λ at.
      changed-open old new name None here others at
      ∙ (ap (λ b. cond b None (open_at (handles_in f old) at)) (sym (is_eq-slice_cmp name at))
      ∙ sym (get-without bytes_cmp nat_list_cmp_total (handles_in f old) name at
      (InOrder-from_entries bytes_cmp nat_list_cmp_total (named f old)))))

  -- ---- how many

  not-found : (k : K) (es : List (K × Open)) → AllByRecursion (λ y. alike k y ≡ false) (keys_of es)
      → lookup (has_bytes (f k)) es ≡ None
  not-found k [] all = refl
  not-found k (e ∷ es) all =
      ap (λ b. cond b (Some e.1) (lookup (has_bytes (f k)) es)) all.0 ∙ not-found k es all.1

  -- each key counts once
  pub open-count : (es : List (K × Open)) → IsDistinct alike (keys_of es) → size (handles_in f es) ≡ length es
  unfolding IsDistinct from_entries
  open-count [] distinct = refl
  open-count (e ∷ es) distinct =
      let more = size-put bytes_cmp (handles_in f es) (f e.0) e.1
      (open-found (f e.0) es ∙ not-found e.0 es distinct.0) in
      let rest = open-count es distinct.1 in
      omega (arith, more, rest)
