-- Files with zeros in the place of the bytes of one of them: what is found, put, kept and counted is the same.
use Rattle.std.proofs.Common.{◌≡◌, ◌==◌, ◌&&◌, ap, sym, refl, ℕ, ◌+◌, Bool, true, false, [], ◌∷◌, length}
use Rattle.std.proofs.Common.{Option, Some, cond}
use Rattle.std.specs.Option.{option_map}
use Rattle.std.specs.List.{list_all}
use Rattle.std.specs.Prelude.{nat_le, replicate}
use Rattle.std.specs.Ordering.{nat_cmp, is_eq, match_ordering}
use Rattle.std.specs.declared.cmp.Ordering.{Ordering}
use Rattle.std.specs.declared.cmp.Ordering.TheVariants.{Less, Equal, Greater}
use Rattle.std.specs.FinMap.{nat_cmp-IsAntisymmetric}
use Rattle.std.proofs.lemmas.List.{length-replicate}
use Rattle.std.specs.BTreeMap.{insert_entry, is_at}
use Rattle.std.specs.Map.{lookup}
use Rattle.sftp_path.specs.Table.{get, put, retain}
use Rattle.sftp_tree.specs.declared.file_contents.Content.{Content}
use Rattle.sftp_treefile.specs.declared.limits.TreeLimits.{TreeLimits}
use Rattle.sftp_tree.specs.Tree.{Files, content_at, with_content, total_of, content_fits}
use Rattle.sftp_laws.specs.Alike.{hollowed, hollow_files}

pub hollowed-length : (b : Bool) (c : Content) → length (hollowed b c).bytes ≡ length c.bytes
hollowed-length true c = length-replicate {A = ℕ} (length c.bytes) 0
hollowed-length false c = refl

pub hollowed-owner : (b : Bool) (c : Content) → (hollowed b c).owner ≡ c.owner
hollowed-owner true c = refl
hollowed-owner false c = refl

pub hollowed-again : (b : Bool) (c : Content) → hollowed b (hollowed b c) ≡ hollowed b c
hollowed-again true c = ap (λ (n : ℕ). record c { bytes = replicate n 0 }) (length-replicate {A = ℕ} (length c.bytes) 0)
hollowed-again false c = refl

module _ (number : ℕ) where
  pub files-again : (fs : Files) → hollow_files number (hollow_files number fs) ≡ hollow_files number fs
  unfolding hollow_files
  files-again [] = refl
  files-again (e ∷ fs) = λ i. (e.0, hollowed-again (e.0 == number) e.1 i) ∷ files-again fs i

  -- ---- what is found

  found : (k : ℕ) (e : ℕ × Content) (o : Ordering) (one other : Option Content) → nat_cmp k e.0 ≡ o
      → one ≡ option_map (hollowed (k == number)) other
      → cond (is_eq o) (Some (hollowed (e.0 == number) e.1)) one
      ≡ option_map (hollowed (k == number)) (cond (is_eq o) (Some e.1) other)
  found k e Less one other is rest = rest
  found k e Greater one other is rest = rest
  found k e Equal one other is rest =
      ap (λ (m : ℕ). Some (hollowed (m == number) e.1)) (sym (nat_cmp-IsAntisymmetric k e.0 is))

  looked : (fs : Files) (k : ℕ) → lookup (is_at (nat_cmp k)) (hollow_files number fs)
      ≡ option_map (hollowed (k == number)) (lookup (is_at (nat_cmp k)) fs)
  unfolding hollow_files
  looked [] k = refl
  looked (e ∷ fs) k = found k e (nat_cmp k e.0) (lookup (is_at (nat_cmp k)) (hollow_files number fs))
      (lookup (is_at (nat_cmp k)) fs) refl (looked fs k)

  pub content-hollow : (fs : Files) (k : ℕ)
      → content_at (hollow_files number fs) k ≡ option_map (hollowed (k == number)) (content_at fs k)
  unfolding get
  content-hollow fs k = looked fs k

  -- ---- what is put

  inserted : (k : ℕ) (c : Content) (e : ℕ × Content) (fs rest inner : Files) (o : Ordering) → nat_cmp k e.0 ≡ o
      → hollow_files number rest ≡ inner
      → hollow_files number (match_ordering o ((k, c) ∷ e ∷ fs) ((e.0, c) ∷ fs) (e ∷ rest))
      ≡ match_ordering o ((k, hollowed (k == number) c) ∷ (e.0, hollowed (e.0 == number) e.1) ∷ hollow_files number fs)
      ((e.0, hollowed (k == number) c) ∷ hollow_files number fs) ((e.0, hollowed (e.0 == number) e.1) ∷ inner)
  unfolding hollow_files
  inserted k c e fs rest inner Less is same = refl
  inserted k c e fs rest inner Equal is same =
      ap (λ (m : ℕ). (e.0, hollowed (m == number) c) ∷ hollow_files number fs) (sym (nat_cmp-IsAntisymmetric k e.0 is))
  inserted k c e fs rest inner Greater is same = ap (λ (r : Files). (e.0, hollowed (e.0 == number) e.1) ∷ r) same

  entered : (fs : Files) (k : ℕ) (c : Content) → hollow_files number (insert_entry nat_cmp fs k c)
      ≡ insert_entry nat_cmp (hollow_files number fs) k (hollowed (k == number) c)
  unfolding hollow_files
  entered [] k c = refl
  entered (e ∷ fs) k c = inserted k c e fs (insert_entry nat_cmp fs k c)
      (insert_entry nat_cmp (hollow_files number fs) k (hollowed (k == number) c)) (nat_cmp k e.0) refl (entered fs k c)

  pub put-hollow : (fs : Files) (k : ℕ) (c : Content) → hollow_files number (with_content fs k c)
      ≡ with_content (hollow_files number fs) k (hollowed (k == number) c)
  unfolding put
  put-hollow fs k c = entered fs k c

  -- ---- what is kept

  one-kept : (b : Bool) (e : ℕ × Content) (fs gs : Files) → hollow_files number fs ≡ gs
      → hollow_files number (cond b (e ∷ fs) fs) ≡ cond b ((e.0, hollowed (e.0 == number) e.1) ∷ gs) gs
  unfolding hollow_files
  one-kept true e fs gs same = ap (λ (r : Files). (e.0, hollowed (e.0 == number) e.1) ∷ r) same
  one-kept false e fs gs same = same

  pub retain-hollow : (fs : Files) (keeps : ℕ → Bool) → hollow_files number (retain fs (λ e. keeps e.0))
      ≡ retain (hollow_files number fs) (λ e. keeps e.0)
  unfolding hollow_files retain
  retain-hollow [] keeps = refl
  retain-hollow (e ∷ fs) keeps = one-kept (keeps e.0) e (retain fs (λ e. keeps e.0))
      (retain (hollow_files number fs) (λ e. keeps e.0)) (retain-hollow fs keeps)

  -- ---- what is counted

  pub total-hollow : (fs : Files) → total_of (hollow_files number fs) ≡ total_of fs
  unfolding hollow_files
  total-hollow [] = refl
  total-hollow (e ∷ fs) = λ i. hollowed-length (e.0 == number) e.1 i + total-hollow fs i

  pub fits-hollow : (bounds : TreeLimits) (fs : Files)
      → list_all (λ e. content_fits bounds e.1) (hollow_files number fs)
      ≡ list_all (λ e. content_fits bounds e.1) fs
  unfolding hollow_files
  fits-hollow bounds [] = refl
  fits-hollow bounds (e ∷ fs) =
      λ i. nat_le (hollowed-length (e.0 == number) e.1 i) bounds.file_bytes && fits-hollow bounds fs i
