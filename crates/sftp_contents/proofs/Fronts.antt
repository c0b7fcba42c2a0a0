-- Pieces: the front and pages.
use Rattle.std.proofs.Common.{◌≡◌, ◌≢◌, ℕ, ◌-◌, List}
use Rattle.std.proofs.Common.{refl, ap, sym, ◌∙◌, arith, inl, inr}
use Rattle.std.proofs.lemmas.Bool.{cases_eq}
use Rattle.std.proofs.lemmas.Grind.{common_steps}
use Rattle.sftp_contents.specs.declared.store.Store.{Store}
use Rattle.sftp_contents.specs.Pieces.{page, piece, IsWithPage, AreSamePages, IsWithPiece, AreSamePieces}

pub front-piece : (s : Store) (n : ℕ) → n ≡ 0 → piece s n ≡ s.front.items
unfolding piece
front-piece s n e = rw e refl

pub page-piece : (s : Store) (n : ℕ) → n ≢ 0 → piece s n ≡ page s.pages.entries (n - 1)
unfolding piece
page-piece s n e = grind (arith, common_steps)

pub front-with : (old new : Store) (n : ℕ) (bytes : List ℕ) → n ≡ 0 → new.front.items ≡ bytes → new.pages ≡ old.pages
    → IsWithPiece n bytes old new
unfolding IsWithPiece
front-with old new n bytes e is same = (
  front-piece new n e ∙ is,
  λ other differ.
      let apart : other ≢ 0 = (λ z. differ (z ∙ sym e)) in
      page-piece new other apart ∙ ap (λ ps. page ps.entries (other - 1)) same ∙ sym (page-piece old other apart),
)

pub page-with : (old new : Store) (n : ℕ) (bytes : List ℕ) → n ≢ 0 → new.front ≡ old.front
    → IsWithPage (n - 1) bytes old.pages.entries new.pages.entries → IsWithPiece n bytes old new
unfolding IsWithPiece IsWithPage
page-with old new n bytes e same with = (
  page-piece new n e ∙ with.0,
  λ other differ. elim (cases_eq other 0) [
    | inl z ↦ front-piece new other z ∙ ap (λ f. f.items) same ∙ sym (front-piece old other z)
    | inr apart ↦ page-piece new other apart ∙ with.1 (other - 1) (λ t. differ (omega arith))
        ∙ sym (page-piece old other apart)
  ],
)

pub front-same : (old new : Store) → new.front.items ≡ old.front.items → new.pages ≡ old.pages → AreSamePieces old new
unfolding AreSamePieces
front-same old new is same = λ other. elim (cases_eq other 0) [
  | inl z ↦ front-piece new other z ∙ is ∙ sym (front-piece old other z)
  | inr apart ↦ page-piece new other apart ∙ ap (λ ps. page ps.entries (other - 1)) same
      ∙ sym (page-piece old other apart)
]

pub page-same : (old new : Store) → new.front ≡ old.front → AreSamePages old.pages.entries new.pages.entries
    → AreSamePieces old new
unfolding AreSamePieces AreSamePages
page-same old new same pages = λ other. elim (cases_eq other 0) [
  | inl z ↦ front-piece new other z ∙ ap (λ f. f.items) same ∙ sym (front-piece old other z)
  | inr apart ↦ page-piece new other apart ∙ pages (other - 1) ∙ sym (page-piece old other apart)
]
