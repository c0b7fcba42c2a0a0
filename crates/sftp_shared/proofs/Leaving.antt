-- That a client leaves is as if each of its handles were closed by a request.
use Rattle.std.proofs.Common.{◌≡◌, ◌||◌, inr, ℕ, Bool, true, false, not, List, [], ◌∷◌, refl, sym, ap, ◌∙◌, subst}
use Rattle.std.proofs.Common.{Option, Some, None, cond, IsTrue}
use Rattle.std.proofs.lemmas.Bool.{both_ways}
use Rattle.std.specs.List.{filter, AllByRecursion}
use Rattle.sftp_packets.specs.declared.requests.Ask.TheVariants as asks
use Rattle.sftp_packets.specs.declared.replies.Answer.TheVariants.{Status}
use Rattle.sftp_transcript.specs.Explained.{Run}
use Rattle.sftp_handles.proofs.Imports.{bytes_cmp, bytes_cmp-same, nat_list_cmp_total, InOrder, InOrder-retain}
use Rattle.sftp_handles.proofs.Imports.{InOrder-without, same_table, get-without, is_eq, Equal-is, each-get, Handles}
use Rattle.sftp_handles.proofs.Imports.{open_at, without_open, State, settled, Good, Request, Reply, Allowed, Files}
use Rattle.sftp_handles.proofs.Imports.{Content, Tree, pins_of, is_pinned, is_named, is_none, causes_of, said_of, says}
use Rattle.sftp_handles.proofs.Imports.{change_of, changed, row_of, seen_among, anything, limits}
unfoldable use Rattle.sftp_handles.proofs.Imports.{causes, answers, after, seen, no_causes, retain}
use Rattle.sftp_handles.specs.declared.opens.Open.{Open}
use Rattle.sftp_handles.proofs.Good.{good-closed, good-settled}
use Rattle.sftp_path.proofs.Table.Laws.{get-retain, get-without_here}
use Rattle.sftp_path.specs.Table.{kept}
use Rattle.sftp_shared.specs.Sharing.{is_of, without_client, left_by}
use Rattle.sftp_shared.specs.Leaving.{IsCloseOf, IsClosing}
use Rattle.sftp_shared.proofs.Sharing.{less-pinned, kept-none, kept-all}

-- ==== Files that are removed in two steps.

filter-twice : (p q : ℕ × Content → Bool) (es : Files) → ((e : ℕ × Content) → q e ≡ true → p e ≡ true)
    → filter q (filter p es) ≡ filter q es
filter-twice p q [] so = refl
filter-twice p q (e ∷ es) so = by (p e) (q e) refl refl (filter-twice p q es so)
  where
    by : (a b : Bool) → p e ≡ a → q e ≡ b → filter q (filter p es) ≡ filter q es
        → filter q (cond a (e ∷ filter p es) (filter p es)) ≡ cond b (e ∷ filter q es) (filter q es)
    by true true is_p is_q later = rw is_q (ap (λ (es : Files). e ∷ es) later)
    by true false is_p is_q later = rw is_q later
    by false true is_p is_q later = absurd (both_ways (p e) is_p (so e is_q))
    by false false is_p is_q later = later

held : (a b c : Bool) → (b ≡ true → c ≡ true) → (a || b) ≡ true → (a || c) ≡ true
held true b c so is = refl
held false b c so is = so is

pub settled-again : (t : Tree) (xs ys : Handles)
    → ((n : ℕ) → is_pinned (pins_of ys) n ≡ true → is_pinned (pins_of xs) n ≡ true)
    → settled (settled t xs).tree ys ≡ settled t ys
unfolding retain
settled-again t xs ys so =
    ap (λ (fs : Files). record { tree = record t { files = fs; pins = pins_of ys }; handles = ys })
    (filter-twice (λ e. is_named t.names e.0 || is_pinned (pins_of xs) e.0)
    (λ e. is_named t.names e.0 || is_pinned (pins_of ys) e.0) t.files
    (λ e. held (is_named t.names e.0) (is_pinned (pins_of ys) e.0) (is_pinned (pins_of xs) e.0) (so e.0)))

-- ==== A leave after a CLOSE.

-- a client's handle that is closed changes nothing of what the others have
without-closed : (client : ℕ) (handles : Handles) (h : List ℕ) → InOrder bytes_cmp handles → is_of client h ≡ true
    → without_client client (without_open handles h) ≡ without_client client handles
without-closed client handles h order own =
    same_table bytes_cmp nat_list_cmp_total bytes_cmp-same (without_client client (without_open handles h))
    (without_client client handles)
    (InOrder-retain bytes_cmp (without_open handles h) (λ e. not (is_of client e.0))
    (InOrder-without bytes_cmp handles h order))
    (InOrder-retain bytes_cmp handles (λ e. not (is_of client e.0)) order)
    (λ n.
    get-retain bytes_cmp nat_list_cmp_total bytes_cmp-same (without_open handles h) (λ e. not (is_of client e.0)) n
    (InOrder-without bytes_cmp handles h order)
    ∙ (ap (kept (λ e. not (is_of client e.0)) n) (get-without bytes_cmp nat_list_cmp_total handles h n order)
    ∙ (by n (is_eq (bytes_cmp h n)) refl
    ∙ sym (get-retain bytes_cmp nat_list_cmp_total bytes_cmp-same handles (λ e. not (is_of client e.0)) n order))))
  where
    by : (n : List ℕ) (b : Bool) → is_eq (bytes_cmp h n) ≡ b
        → kept (λ (e : List ℕ × Open). not (is_of client e.0)) n (cond b None (open_at handles n))
        ≡ kept (λ (e : List ℕ × Open). not (is_of client e.0)) n (open_at handles n)
    by n true hit =
        let same : h ≡ n = bytes_cmp-same h n ((Equal-is (bytes_cmp h n)).0 hit) in
        sym (kept-none client n (open_at handles n) (ap (is_of client) (sym same) ∙ own))
    by n false miss = refl

pub leave-after : (client : ℕ) (s : State) (h : List ℕ) → Good s → is_of client h ≡ true
    → left_by client (settled s.tree (without_open s.handles h)) ≡ left_by client s
leave-after client s h good own =
    settled-again s.tree (without_open s.handles h) (without_client client (without_open s.handles h))
    (λ n pinned. less-pinned client (without_open s.handles h) n pinned)
    ∙ ap (settled s.tree) (without-closed client s.handles h good.ordered own)

close_of : List ℕ → Request × Reply
close_of h = (record { id = 0; ask = asks.Close h }, record { id = 0; answer = Status 0 [] [] })

close-allowed : (s : State) (h : List ℕ) (it : Open) → open_at s.handles h ≡ Some it
    → Allowed s (close_of h).0 (close_of h).1 (settled s.tree (without_open s.handles h))
unfolding causes answers after seen no_causes close_of
close-allowed s h it there = record {
  same_id = refl;
  step = inr (record {
    free =
        subst (λ (o : Option Open). IsTrue (is_none (causes_of s.tree (row_of (asks.Close h)) (seen_among s.tree.files anything o))))
        (sym there) refl;
    answered =
        subst (λ (o : Option Open). IsTrue (says (said_of (limits s.tree) (row_of (asks.Close h)) (seen_among s.tree.files anything o)) (Status 0 [] [])))
        (sym there) refl;
    changed =
        subst (λ (o : Option Open). settled s.tree (without_open s.handles h) ≡ changed s h (change_of (row_of (asks.Close h)) (seen_among s.tree.files anything o) (Status 0 [] [])))
        (sym there) refl;
  });
}

close-is : (client : ℕ) (h : List ℕ) → is_of client h ≡ true → IsCloseOf client (close_of h)
unfolding close_of
close-is client h own = record { name = h; own = own; asked = refl; answered = refl }

-- ==== All handles of a client.

record Closed (client : ℕ) (hs : List (List ℕ)) (s : State) : Type 0 where
  closes : List (Request × Reply)
  end : State
  run : Run Allowed s closes end
  are_closes : AllByRecursion (IsCloseOf client) closes
  good : Good end
  same : left_by client end ≡ left_by client s
  shut : AllByRecursion (λ h. open_at end.handles h ≡ None) hs
  less : (n : List ℕ) → open_at s.handles n ≡ None → open_at end.handles n ≡ None

pub none-of : (b : Bool) (o : Option Open) → o ≡ None → cond b None o ≡ None
none-of true o none = refl
none-of false o none = none

closed : (client : ℕ) (hs : List (List ℕ)) (s : State) → Good s → AllByRecursion (λ h. is_of client h ≡ true) hs
    → Closed client hs s
closed client [] s good own = record {
  closes = [];
  end = s;
  run = refl;
  are_closes = tt;
  good = good;
  same = refl;
  shut = tt;
  less = λ n none. none;
}
closed client (h ∷ hs) s good own =
    by (open_at s.handles h) refl (λ s good. closed client hs s good own.1)
  where
    by : (o : Option Open) → open_at s.handles h ≡ o → ((s : State) → Good s → Closed client hs s)
        → Closed client (h ∷ hs) s
    by None none rest =
        let later = rest s good in
        record {
          closes = later.closes;
          end = later.end;
          run = later.run;
          are_closes = later.are_closes;
          good = later.good;
          same = later.same;
          shut = (later.less h none, later.shut);
          less = later.less;
        }
    by (Some it) there rest =
        let next : State = settled s.tree (without_open s.handles h) in
        let later = rest next (good-closed s h it good there) in
        record {
          closes = close_of h ∷ later.closes;
          end = later.end;
          run = (next, close-allowed s h it there, later.run);
          are_closes = (close-is client h own.0, later.are_closes);
          good = later.good;
          same = later.same ∙ leave-after client s h good own.0;
          shut =
              (later.less h (get-without_here bytes_cmp nat_list_cmp_total s.handles h good.ordered), later.shut);
          less = λ n none.
              later.less n
              (get-without bytes_cmp nat_list_cmp_total s.handles h n good.ordered
              ∙ none-of (is_eq (bytes_cmp h n)) (open_at s.handles n) none);
        }

names_of : ℕ → Handles → List (List ℕ)
names_of client [] = []
names_of client (e ∷ es) = cond (is_of client e.0) (e.0 ∷ names_of client es) (names_of client es)

names-own : (client : ℕ) (es : Handles) → AllByRecursion (λ h. is_of client h ≡ true) (names_of client es)
unfolding names_of
names-own client [] = tt
names-own client (e ∷ es) = by (is_of client e.0) refl (names-own client es)
  where
    by : (b : Bool) → is_of client e.0 ≡ b → AllByRecursion (λ h. is_of client h ≡ true) (names_of client es)
        → AllByRecursion (λ h. is_of client h ≡ true) (cond b (e.0 ∷ names_of client es) (names_of client es))
    by true is rest = (is, rest)
    by false is rest = rest

of-names : (client : ℕ) (P : List ℕ → Type 0) (es : Handles) → AllByRecursion P (names_of client es)
    → AllByRecursion (λ e. is_of client e.0 ≡ true → P e.0) es
unfolding names_of
of-names client P [] all = tt
of-names client P (e ∷ es) all = by (is_of client e.0) refl all (of-names client P es)
  where
    by : (b : Bool) → is_of client e.0 ≡ b
        → AllByRecursion P (cond b (e.0 ∷ names_of client es) (names_of client es))
        → (AllByRecursion P (names_of client es) → AllByRecursion (λ e. is_of client e.0 ≡ true → P e.0) es)
        → (is_of client e.0 ≡ true → P e.0) × AllByRecursion (λ e. is_of client e.0 ≡ true → P e.0) es
    by true is all rest = ((λ own. all.0), rest all.1)
    by false is all rest = ((λ own. absurd (both_ways (is_of client e.0) is own)), rest all)

-- where nothing of a client is open, it leaves the state as it is
pub leave-nothing : (client : ℕ) (s : State) → Good s
    → ((n : List ℕ) → is_of client n ≡ true → open_at s.handles n ≡ None) → left_by client s ≡ s
leave-nothing client s good none =
    ap (settled s.tree)
    (same_table bytes_cmp nat_list_cmp_total bytes_cmp-same (without_client client s.handles) s.handles
    (InOrder-retain bytes_cmp s.handles (λ e. not (is_of client e.0)) good.ordered) good.ordered
    (λ n.
    get-retain bytes_cmp nat_list_cmp_total bytes_cmp-same s.handles (λ e. not (is_of client e.0)) n good.ordered
    ∙ by n (is_of client n) refl))
    ∙ good-settled s good
  where
    by : (n : List ℕ) (b : Bool) → is_of client n ≡ b
        → kept (λ (e : List ℕ × Open). not (is_of client e.0)) n (open_at s.handles n) ≡ open_at s.handles n
    by n true own = kept-none client n (open_at s.handles n) own ∙ sym (none n own)
    by n false other = kept-all client n (open_at s.handles n) other

found : (client : ℕ) (s end : State) (n : List ℕ) (o : Option Open) → is_of client n ≡ true
    → open_at s.handles n ≡ o → ((n : List ℕ) → open_at s.handles n ≡ None → open_at end.handles n ≡ None)
    → AllByRecursion (λ e. is_of client e.0 ≡ true → open_at end.handles e.0 ≡ None) s.handles
    → open_at end.handles n ≡ None
found client s end n None own none less shut = less n none
found client s end n (Some it) own there less shut =
    each-get bytes_cmp bytes_cmp-same (λ e. is_of client e.0 ≡ true → open_at end.handles e.0 ≡ None) s.handles n it shut
    there own

pub leaving-closes : (s : State) (client : ℕ) → Good s → IsClosing s client
leaving-closes s client good =
    let all = closed client (names_of client s.handles) s good (names-own client s.handles) in
    let none : (n : List ℕ) → is_of client n ≡ true → open_at all.end.handles n ≡ None =
    λ n own. found client s all.end n (open_at s.handles n) own refl all.less
    (of-names client (λ h. open_at all.end.handles h ≡ None) s.handles all.shut) in
    record {
      closes = all.closes;
      are_closes = all.are_closes;
      run =
          subst (λ (e : State). Run Allowed s all.closes e)
          (sym (leave-nothing client all.end all.good none) ∙ all.same) all.run;
    }
