-- What is wrong at the first place at which an order is none: the order explains nothing.
use Rattle.std.proofs.Common.{◌≡◌, ◌==◌, inl, inr, ℕ, Bool, true, false, List, [], ◌∷◌, ◌++◌, refl, sym, ap, ◌∙◌, subst}
use Rattle.std.proofs.Common.{map, eq-eqb}
use Rattle.std.proofs.lemmas.Bool.{both_ways}
use Rattle.std.proofs.lemmas.List.{append-nil}
use Rattle.std.specs.List.{AllByRecursion}
use Rattle.sftp_packets.specs.declared.packets.Request.{Request}
use Rattle.sftp_packets.specs.declared.packets.Reply.{Reply}
use Rattle.sftp_transcript.specs.Explained.{StepOf, Run}
use Rattle.sftp_together.specs.declared.exchanges.TimedExchange.{TimedExchange}
use Rattle.sftp_together.specs.declared.errors.OrderFault.{OrderFault}
use Rattle.sftp_together.specs.declared.errors.OrderFault.TheVariants as faults
use Rattle.sftp_together.specs.Sets.{Sessions, session_at, is_alone, Placed, session_of, part_of, comes_before}
use Rattle.sftp_together.specs.Sets.{KeepsClock, pair_in, pairs_in}
use Rattle.sftp_together.specs.Checks.{IsPlaced, MissesClock, ExplainsBy, IsFirstFault, IsNoJudgement, Stops}
use Rattle.sftp_together.proofs.Orders.{run-split}

-- ==== An order of given sessions is one: the numbers say what is at each place.

pub part-here : (number : ℕ) (exchange : TimedExchange) (order : List Placed)
    → part_of number ((number, exchange) ∷ order) ≡ exchange ∷ part_of number order
unfolding part_of
part-here number exchange order = rw (eq-eqb number number refl) refl

pub part-away : (number other : ℕ) (exchange : TimedExchange) (order : List Placed) → (other == number) ≡ false
    → part_of number ((other, exchange) ∷ order) ≡ part_of number order
unfolding part_of
part-away number other exchange order away = rw away refl

pub head-is : {A : Type 0} (x y : A) (xs ys : List A) → x ∷ xs ≡ y ∷ ys → x ≡ y
head-is x y xs ys same = cc

pub tail-is : {A : Type 0} (x y : A) (xs ys : List A) → x ∷ xs ≡ y ∷ ys → xs ≡ ys
tail-is x y xs ys same = cc

-- what is behind the places of a beginning
pub record Behind (placed order : List Placed) (numbers : List ℕ) (left : ℕ → List TimedExchange) : Type 0 where
  pub rest : List Placed
  pub order_is : order ≡ placed ++ rest
  pub named : map session_of rest ≡ numbers
  pub each : (number : ℕ) → part_of number rest ≡ left number

pub behind : (placed order : List Placed) (before numbers : List ℕ) (left : ℕ → List TimedExchange)
    → map session_of placed ≡ before → map session_of order ≡ before ++ numbers
    → ((number : ℕ) → part_of number placed ++ left number ≡ part_of number order)
    → Behind placed order numbers left
unfolding part_of
behind [] order [] numbers left named all each = record {
  rest = order;
  order_is = refl;
  named = all;
  each = λ number. sym (each number);
}
behind [] order (n ∷ before) numbers left named all each = absurd cc
behind (x ∷ placed) order [] numbers left named all each = absurd cc
behind (x ∷ placed) [] (n ∷ before) numbers left named all each = absurd cc
behind (x ∷ placed) (y ∷ order) (n ∷ before) numbers left named all each =
    let same_number : x.0 ≡ y.0 =
    head-is x.0 n (map session_of placed) before named ∙ sym (head-is y.0 n (map session_of order) (before ++ numbers) all) in
    let at : x.1 ∷ (part_of x.0 placed ++ left x.0) ≡ y.1 ∷ part_of x.0 order =
    ap (λ (es : List TimedExchange). es ++ left x.0) (sym (part-here x.0 x.1 placed))
    ∙ (each x.0 ∙ subst (λ (m : ℕ). part_of m (y ∷ order) ≡ y.1 ∷ part_of m order) (sym same_number) (part-here y.0 y.1 order)) in
    let same : x ≡ y = λ i. (same_number i, head-is x.1 y.1 _ _ at i) in
    let later = behind placed order before numbers left (tail-is x.0 n (map session_of placed) before named)
    (tail-is y.0 n (map session_of order) (before ++ numbers) all)
    (λ number. by number (x.0 == number) refl same_number) in
    record {
      rest = later.rest;
      order_is = (λ i. sym same i ∷ later.order_is i);
      named = later.named;
      each = later.each;
    }
  where
    by : (number : ℕ) (b : Bool) → (x.0 == number) ≡ b → x.0 ≡ y.0
        → part_of number placed ++ left number ≡ part_of number order
    by number true same also =
        let mine : part_of number (x ∷ placed) ≡ x.1 ∷ part_of number placed = rw same refl in
        let theirs : part_of number (y ∷ order) ≡ y.1 ∷ part_of number order =
        rw (ap (λ (m : ℕ). m == number) (sym also) ∙ same) refl in
        tail-is x.1 y.1 (part_of number placed ++ left number) (part_of number order)
        (ap (λ (es : List TimedExchange). es ++ left number) (sym mine) ∙ (each number ∙ theirs))
    by number false away also =
        let mine : part_of number (x ∷ placed) ≡ part_of number placed = rw away refl in
        let theirs : part_of number (y ∷ order) ≡ part_of number order =
        rw (ap (λ (m : ℕ). m == number) (sym also) ∙ away) refl in
        ap (λ (es : List TimedExchange). es ++ left number) (sym mine) ∙ (each number ∙ theirs)

-- ==== The clock of a longer order.

clock-behind : (tolerance : ℕ) (xs : List Placed) (y : Placed) (ys : List Placed)
    → KeepsClock tolerance (xs ++ y ∷ ys) → MissesClock tolerance y.1 xs → ⊥
unfolding KeepsClock MissesClock
clock-behind tolerance [] y ys keeps missed = missed
clock-behind tolerance (x ∷ xs) y ys keeps (inl missed) =
    absurd (both_ways (comes_before tolerance y.1 x.1) (at xs keeps.0) missed)
  where
    at : (xs : List Placed) → AllByRecursion (λ later. comes_before tolerance later.1 x.1 ≡ false) (xs ++ y ∷ ys)
        → comes_before tolerance y.1 x.1 ≡ false
    at [] all = all.0
    at (z ∷ zs) all = at zs all.1
clock-behind tolerance (x ∷ xs) y ys keeps (inr missed) = clock-behind tolerance xs y ys keeps.1 missed

-- ==== What is explained, where something is wrong.

module _ {S : Type 0} (step : StepOf S)
    (one_end : (s : S) (request : Request) (reply : Reply) (a b : S) → step s request reply a → step s request reply b
    → a ≡ b) (start : S) (tolerance : ℕ) (sessions : Sessions) where
  same-end : (s : S) (pairs : List (Request × Reply)) (a b : S) → Run step s pairs a → Run step s pairs b → a ≡ b
  same-end s [] a b to_a to_b = to_a ∙ sym to_b
  same-end s (pair ∷ pairs) a b to_a to_b =
      let mid : to_b.0 ≡ to_a.0 = one_end s pair.0 pair.1 to_b.0 to_a.0 to_b.1 to_a.1 in
      same-end to_a.0 pairs a b to_a.2 (subst (λ (s : S). Run step s pairs b) mid to_b.2)

  -- an explaining order of numbers with a right beginning goes on from there
  record GoesOn (numbers : List ℕ) (placed : List Placed) (left : Sessions) (mid end : S) : Type 0 where
    rest : List Placed
    named : map session_of rest ≡ numbers
    each : (number : ℕ) → part_of number rest ≡ session_at number left
    clock : KeepsClock tolerance (placed ++ rest)
    run : Run step mid (pairs_in (is_alone sessions) rest) end

  goes-on : (before numbers : List ℕ) (placed : List Placed) (left : Sessions) (mid end : S)
      → IsPlaced step start tolerance sessions before placed left mid
      → ExplainsBy step start tolerance sessions (before ++ numbers) end → GoesOn numbers placed left mid end
  goes-on before numbers placed left mid end right explains =
      let cut = behind placed explains.order before numbers (λ number. session_at number left) right.named explains.named
      (λ number. sym (right.each number) ∙ sym (explains.explains.each number)) in
      let parts = run-split step (is_alone sessions) start end placed cut.rest
      (subst (λ (order : List Placed). Run step start (pairs_in (is_alone sessions) order) end) cut.order_is
      explains.explains.run) in
      record {
        rest = cut.rest;
        named = cut.named;
        each = cut.each;
        clock = subst (KeepsClock tolerance) cut.order_is explains.explains.clock;
        run =
            subst (λ (s : S). Run step s (pairs_in (is_alone sessions) cut.rest) end)
            (same-end start (pairs_in (is_alone sessions) placed) parts.0 mid parts.1 right.run) parts.2;
      }

  -- what comes next of a session comes first
  record ComesFirst (number : ℕ) (next : List TimedExchange) (placed : List Placed) (mid end : S) : Type 0 where
    exchange : TimedExchange
    others : List TimedExchange
    next_is : exchange ∷ others ≡ next
    rest : List Placed
    clock : KeepsClock tolerance (placed ++ (number, exchange) ∷ rest)
    run : Run step mid (pairs_in (is_alone sessions) ((number, exchange) ∷ rest)) end

  comes-first : (numbers : List ℕ) (number : ℕ) (rest placed : List Placed) (left : Sessions) (mid end : S)
      → map session_of rest ≡ number ∷ numbers → ((other : ℕ) → part_of other rest ≡ session_at other left)
      → KeepsClock tolerance (placed ++ rest) → Run step mid (pairs_in (is_alone sessions) rest) end
      → ComesFirst number (session_at number left) placed mid end
  comes-first numbers number [] placed left mid end named each clock run = absurd cc
  comes-first numbers number (x ∷ rest) placed left mid end named each clock run =
      let is : x.0 ≡ number = head-is x.0 number (map session_of rest) numbers named in
      let same : x ≡ (number, x.1) = λ i. (is i, x.1) in
      record {
        exchange = x.1;
        others = part_of number rest;
        next_is =
            sym (part-here number x.1 rest)
            ∙ (ap (λ (y : Placed). part_of number (y ∷ rest)) (sym same) ∙ each number);
        rest = rest;
        clock = subst (λ (y : Placed). KeepsClock tolerance (placed ++ y ∷ rest)) same clock;
        run = subst (λ (y : Placed). Run step mid (pairs_in (is_alone sessions) (y ∷ rest)) end) same run;
      }

  at-place : (numbers : List ℕ) (place number : ℕ) (next : List TimedExchange) (end : S)
      → (stops : Stops step start tolerance sessions numbers place number next)
      → ExplainsBy step start tolerance sessions numbers end
      → ComesFirst number next stops.placed stops.mid end
  at-place numbers place number next end stops explains =
      let on = goes-on stops.before (number ∷ stops.behind) stops.placed stops.left stops.mid end stops.right
      (subst (λ (ns : List ℕ). ExplainsBy step start tolerance sessions ns end) stops.numbers_are explains) in
      subst (λ (es : List TimedExchange). ComesFirst number es stops.placed stops.mid end) stops.next_is
      (comes-first stops.behind number on.rest stops.placed stops.left stops.mid end on.named on.each on.clock on.run)

  none-left : (number : ℕ) (rest : List Placed) → map session_of rest ≡ [] → (exchange : TimedExchange)
      (others : List TimedExchange) → part_of number rest ≡ exchange ∷ others → ⊥
  unfolding part_of
  none-left number [] named exchange others is = absurd cc
  none-left number (x ∷ rest) named exchange others is = absurd cc

  pub refutes : (numbers : List ℕ) (fault : OrderFault) (end : S)
      → IsFirstFault step start tolerance sessions numbers fault → (IsNoJudgement fault → ⊥)
      → ExplainsBy step start tolerance sessions numbers end → ⊥
  refutes numbers (faults.NothingLeft place session) end first judged explains =
      let next = at-place numbers place session [] end first explains in
      absurd (let no : next.exchange ∷ next.others ≡ [] = next.next_is in cc)
  refutes numbers (faults.Clock place session stamp) end first judged explains =
      let next = at-place numbers place session (first.exchange ∷ first.others) end first.stops explains in
      let same : next.exchange ≡ first.exchange =
      head-is next.exchange first.exchange next.others first.others next.next_is in
      clock-behind tolerance first.stops.placed (session, next.exchange) next.rest next.clock
      (subst (λ (e : TimedExchange). MissesClock tolerance e first.stops.placed) (sym same) first.missed)
  refutes numbers (faults.Reply place session stamp) end first judged explains =
      let next = at-place numbers place session (first.exchange ∷ first.others) end first.stops explains in
      let same : next.exchange ≡ first.exchange =
      head-is next.exchange first.exchange next.others first.others next.next_is in
      first.wrong next.run.0
      (subst (λ (e : TimedExchange). step first.stops.mid (pair_in (is_alone sessions) (session, e)).0
      (pair_in (is_alone sessions) (session, e)).1 next.run.0) same next.run.1)
  refutes numbers (faults.LeftOut session stamp) end first judged explains =
      let on = goes-on numbers [] first.placed first.left first.mid end first.right
      (subst (λ (ns : List ℕ). ExplainsBy step start tolerance sessions ns end) (sym (append-nil numbers)) explains) in
      none-left session on.rest on.named first.exchange first.others (on.each session ∙ first.next_is)
  refutes numbers (faults.Unread session) end first judged explains = judged tt
  refutes numbers faults.NoMemory end first judged explains = judged tt
