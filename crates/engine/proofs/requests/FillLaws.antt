-- No. 4: the count of orders read, the refusals of the question, and that its answer is the truth about entries. Assumes nothing.
use Prim.Native.Nat.{ℕ, ◌+◌, ◌-◌, ◌≤◌, ◌<◌, min}
use native.Mathlib.Omega.{arith}
use mathlib.Core.Path.{◌≡◌, refl, sym, ap, ◌∙◌, subst}
use mathlib.Core.Bool.{Bool, true, false, ◌&&◌}
use mathlib.Core.Option.{Option, none, some}
use mathlib.Core.List.{List, [], ◌∷◌, ◌++◌, map, foldl}
use lib.Dec.{T, leb, eqb, leb→le, le→leb, eqb→eq}
use lib.ListN.{length}
use borrow.Author.Tests.{le-leb, lt-ltb}
use Rattle.numbers.specs.Tests.{pick, All}
use Rattle.numbers.specs.Answers.{Outcome, gives, refuses}
use Rattle.numbers.proofs.TestLaws.{by_test, pick_yes, bool_ext, eq→T}
use Rattle.book.specs.declared.Order.{Order}
use Rattle.book.specs.declared.FrontRead.{FrontRead}
use Rattle.book.specs.rules.Orders.{if_same}
use Rattle.book.specs.rules.Matching.{Execution, Happening, traded, Meeting, trading, withdrawing, meeting, Matched, matching}
use Rattle.book.specs.rules.Words.{resting, is_book}
use Rattle.book.specs.rules.Fill.{all_reached, front_read}
use Rattle.book.proofs.definitions.ShareLaws.{if_same_same, if_same_other}
use Rattle.book.proofs.definitions.OrderLaws.{id_of, Other, Distinct, taken_all, mem_taken, without_all, without_differ}
use Rattle.book.proofs.definitions.CounterpartyLaws.{Reached}
use Rattle.book.proofs.definitions.MeetingLaws.{execution_by, meeting_by, trading_known, withdrawing_known}
use Rattle.book.proofs.definitions.MatchingLaws.{after_trade_all, after_trade_differ, matching_keeps}
use Rattle.book.proofs.definitions.FillLaws.{front_fills, front_enough, front_shortest, front_whole, reached_alike, matching_left}
use Rattle.engine.specs.declared.Market.{Market}
use Rattle.engine.specs.declared.Entry.{Entry}
use Rattle.engine.specs.declared.Event.TheVariants.{Entry as entry}
use Rattle.engine.specs.declared.Remainder.{Remainder}
use Rattle.engine.specs.declared.Remainder.TheVariants.{Filled, Cancelled, Rests}
use Rattle.engine.specs.rules.Reports.{Report}
use Rattle.engine.specs.rules.Working.{order_of, remainder, after_remainder, happened, work}
use Rattle.engine.specs.rules.Venue.{Venue, entering, effect_of_entry, effect_of}
use Rattle.engine.specs.rules.Sound.{most_events, sound}
use Rattle.engine.specs.rules.Refusals.{refuse_unless, first_of, refusal_of_terms, refusal_of_other_codes, refusal_of_codes, refusal_of_asked, refusal_of_place, refusal_of_entry, refusal_of_kind, least_buffer, refusal}
use Rattle.engine.specs.rules.Run.{Step, step_unless, step}
use Rattle.engine.specs.rules.Records.{reports_bytes}
use Rattle.engine.specs.rules.Answers.{count_of, buffer_after}
use Rattle.engine.specs.rules.Layout.{venue_of, sound_words, refused_layout, step_in}
use Rattle.engine.specs.rules.Fill.{asked_order, fill_unless, would_fill, would_fill_in}
use Rattle.engine.specs.claims.RoundTrips.{Word}
use Rattle.engine.specs.claims.Calls.{refusal_given, Applied}
use Rattle.engine.specs.claims.Fill.{answer_for, answer_in, ReadShortest, ReadsShortest, ReadsShortestInCalls, of_venue_terms_or_mark, RefusedByKind, RefusedByKindInCalls, RefusedAsEntries, RefusedAsEntriesInCalls, NoQuestionGets16, NoQuestionOfCallsGets16, executed_by, executed_for, TrueOf, TrueOfTheEffect, TellsTheTruth, TrueOfBytes, TellsTheTruthOfCalls}
use Rattle.engine.proofs.refinement.RefuseLaws.{refuse_yes, unrefused}
use Rattle.engine.proofs.refinement.RefusalLaws.{terms_by, other_codes_by, place_by, NotRefused, none_known}
use Rattle.engine.proofs.refinement.OpeningLaws.{opened_book, opened_venue, step_in_lem}
use Rattle.engine.proofs.refinement.QuestionLaws.{asked_shares, sound_not_16, words_not_16}
use Rattle.engine.proofs.demand3.SoundLaws.{sound_venue, venue_sound, book_distinct, book_others}
use Rattle.engine.proofs.demand3.ReachedLaws.{reached_sound}
use Rattle.engine.proofs.demand3.CallLaws.{accepted_call, Readable, step_readable, bytes_read, reached_words}
use Rattle.engine.proofs.requests.WordStepLaws.{step_given, count_given}

-- The answer by the book

module _ (v : Venue) (mark price shares : ℕ) where
  abbrev the_front : FrontRead
  the_front = front_read (asked_order v.market mark price shares) v.orders

  told : (x : Option ℕ) (r : FrontRead) → fill_unless x v mark price shares ≡ gives r → (x ≡ none) × (the_front ≡ r)
  unfolding fill_unless
  told none r e = (refl, cc)
  told (some n) r e = let z : ◌≡◌ {A = ℕ} 0 1 = cc in absurd (omega arith)

pub reads_shortest : ReadsShortest
unfolding would_fill
reads_shortest v mark price shares r e =
    let w : Order = asked_order v.market mark price shares in
    subst
    (ReadShortest w v.orders)
    (told v mark price shares _ r e).1
    (record { whole = front_fills w v.orders; enough = front_enough w v.orders; shortest = front_shortest w v.orders; all = front_whole w v.orders })

-- Its refusals

asked_later : (b : Bool) (n : ℕ) (later : Option ℕ) → of_venue_terms_or_mark (some n) ≡ some n → of_venue_terms_or_mark (refuse_unless b n later) ≡ refuse_unless b n (of_venue_terms_or_mark later)
unfolding refuse_unless
asked_later true n later k = refl
asked_later false n later k = k

asked_first : (r later : Option ℕ) → of_venue_terms_or_mark r ≡ r → of_venue_terms_or_mark (first_of r later) ≡ first_of r (of_venue_terms_or_mark later)
unfolding first_of
asked_first none later k = refl
asked_first (some n) later k = k

others_first : (r later : Option ℕ) → of_venue_terms_or_mark r ≡ none → of_venue_terms_or_mark later ≡ none → of_venue_terms_or_mark (first_of r later) ≡ none
unfolding first_of
others_first none later k h = h
others_first (some n) later k h = k

terms_asked : (s price shares : ℕ) → of_venue_terms_or_mark (refusal_of_terms s price shares) ≡ refusal_of_terms s price shares
unfolding of_venue_terms_or_mark pick
terms_asked = terms_by (λ (r : Option ℕ). of_venue_terms_or_mark r ≡ r) refl refl refl

codes_others : (e : Entry) → of_venue_terms_or_mark (refusal_of_other_codes e) ≡ none
unfolding of_venue_terms_or_mark pick
codes_others = other_codes_by (λ (r : Option ℕ). of_venue_terms_or_mark r ≡ none) refl refl refl refl

place_others : (v : Venue) (e : Entry) → of_venue_terms_or_mark (refusal_of_place v e) ≡ none
unfolding of_venue_terms_or_mark pick
place_others = place_by (λ (r : Option ℕ). of_venue_terms_or_mark r ≡ none) refl refl refl

codes_and_place : (b : Bool) (codes place : Option ℕ) → of_venue_terms_or_mark codes ≡ none → of_venue_terms_or_mark place ≡ none → of_venue_terms_or_mark (first_of (refuse_unless b 18 codes) place) ≡ refuse_unless b 18 none
unfolding refuse_unless first_of of_venue_terms_or_mark pick
codes_and_place true codes place c p = others_first codes place c p
codes_and_place false codes place c p = refl

kind_asked : (v : Venue) (e : Entry) → of_venue_terms_or_mark (refusal_of_kind v (entry e)) ≡ refusal_of_asked (v.market.step) e.mark e.price e.shares
unfolding refusal_of_kind refusal_of_entry first_of refusal_of_asked refusal_of_codes
kind_asked v e =
    asked_first (refusal_of_terms (v.market.step) e.price e.shares) _ (terms_asked (v.market.step) e.price e.shares)
    ∙ ap (first_of (refusal_of_terms (v.market.step) e.price e.shares)) (codes_and_place _ (refusal_of_other_codes e) (refusal_of_place v e) (codes_others e) (place_others v e))

refusal_asked : (v : Venue) (e : Entry) (n : ℕ) → least_buffer ≤ n → v.accepted_events < most_events → of_venue_terms_or_mark (refusal v (entry e) n) ≡ refuse_unless (sound v) 16 (refusal_of_asked (v.market.step) e.mark e.price e.shares)
unfolding refusal of_venue_terms_or_mark pick
refusal_asked v e n b a =
    asked_later (sound v) 16 _ refl ∙ ap (refuse_unless (sound v) 16) (ap of_venue_terms_or_mark (refuse_yes _ 1 _ (le-leb least_buffer n b) ∙ refuse_yes _ 2 _ (lt-ltb v.accepted_events most_events a)) ∙ kind_asked v e)

-- what was answered says what was refused

fill_given : (x : Option ℕ) (v : Venue) (mark price shares : ℕ) → refusal_given (fill_unless x v mark price shares) ≡ x
unfolding fill_unless
fill_given none v mark price shares = refl
fill_given (some n) v mark price shares = refl

pub refused_by_kind : RefusedByKind
unfolding would_fill
refused_by_kind v e =
    fill_given _ v e.mark e.price e.shares ∙ ap (refuse_unless (sound v) 16) (sym (kind_asked v e))

pub refused_as_entries : RefusedAsEntries
unfolding would_fill step
refused_as_entries v e n b a =
    fill_given _ v e.mark e.price e.shares ∙ sym (refusal_asked v e n b a) ∙ ap of_venue_terms_or_mark (sym (step_given (refusal v (entry e) n) v (entry e)))

pub no_question_gets_16 : NoQuestionGets16
no_question_gets_16 s close v o cs = sound_not_16 _ (venue_sound _ (reached_sound s close v o cs))

-- The truth about entries

executed_append : (k : ℕ) (rs qs : List Report) → executed_for k (rs ++ qs) ≡ executed_for k rs + executed_for k qs
unfolding executed_for
executed_append k [] qs = omega arith
executed_append k (r ∷ rs) qs = omega (arith, executed_append k rs qs)

-- read one after another
abbrev read_for : ℕ → ℕ → Happening → ℕ
read_for k n x = n + executed_by k (happened x)

executed_read : (k n : ℕ) (xs : List Happening) → foldl (read_for k) n xs ≡ n + executed_for k (map happened xs)
unfolding executed_for
executed_read k n [] = omega arith
executed_read k n (x ∷ xs) = omega (arith, executed_read k (read_for k n x) xs)

remainder_executed : (k : ℕ) (x : Remainder) (w : Order) (os : List Order) → executed_for k (after_remainder x w os).reports ≡ 0
unfolding executed_for after_remainder
remainder_executed k Filled w os = refl
remainder_executed k (Cancelled cause) w os = refl
remainder_executed k Rests w os = refl

-- matching executes for a working order what it takes of its shares
matching_executed : (w : Order) (os : List Order) → All (Other w.id) os → Distinct os → let m : Matched = matching w os in executed_for w.id (map happened m.happenings) + m.left.shares ≡ w.shares
matching_executed w os h d =
    let m : Matched = matching w os in
    omega (arith, executed_read w.id 0 m.happenings, (matching_keeps (read_for w.id) Kept keeps w os 0 (refl, h, d, omega arith)).3)
  where
    Kept : Order → List Order → ℕ → Type 0
    Kept x l n = (x.id ≡ w.id) × All (Other w.id) l × Distinct l × (n + x.shares ≡ w.shares)

    KeptIn : ℕ → Meeting → Type 0
    KeptIn n z = Kept z.left z.orders (read_for w.id n z.happening)

    trades : (x o : Order) (l : List Order) (n : ℕ) → Reached x l (some o) → Kept x l n → KeptIn n (trading x o l)
    trades x o l n r i =
        let q : ℕ = min x.shares o.shares in
        let own : if_same w.id x.id q ≡ q = ap (λ (j : ℕ). if_same w.id j q) i.0 ∙ if_same_same w.id q in
        let other : if_same w.id o.id q ≡ 0 = if_same_other w.id o.id q (λ z. (taken_all (Other w.id) (mem_taken r.0 i.2) i.1).0 (sym z)) in
        rw
        (trading_known x o l)
        (i.0, after_trade_all q r.0 i.2 (Other w.id) (λ z s l h. h) i.1, after_trade_differ q r.0 i.2 id_of refl i.2, execution_by (λ (y : Execution). read_for w.id n (traded y) + (x.shares - q) ≡ w.shares) x o q (λ t. omega (arith, own, other, i.3)) (λ t. omega (arith, own, other, i.3)))

    withdraws : (x o : Order) (l : List Order) (n : ℕ) → Kept x l n → KeptIn n (withdrawing x o l)
    withdraws x o l n i =
        rw (withdrawing_known x o l) (i.0, without_all (Other w.id) o.id l i.1, without_differ id_of o.id l i.2, omega (arith, i.3))

    keeps : (x o : Order) (l : List Order) (n : ℕ) → Reached x l (some o) → Kept x l n → KeptIn n (meeting x o l)
    keeps x o l n r i = meeting_by (KeptIn n) x o l (withdraws x o l n i) (trades x o l n r i)

work_executed : (w : Order) (os : List Order) → w.owner ≡ 0 → All (Other w.id) os → Distinct os → executed_for w.id (work w os).reports + (w.shares - all_reached w os) ≡ w.shares
unfolding work
work_executed w os u h d =
    let m : Matched = matching w os in
    omega (arith, executed_append w.id (map happened m.happenings) (after_remainder (remainder m.left) m.left m.orders).reports, remainder_executed w.id (remainder m.left) m.left m.orders, matching_executed w os h d, matching_left w os u d)

-- the order that is asked about reaches whom the entry's order reaches, whatever its id, stamp, show, life and slide
asked_reached : (m : Market) (s : ℕ) (e : Entry) (os : List Order) → all_reached (asked_order m e.mark e.price e.shares) os ≡ all_reached (order_of m s 0 e) os
unfolding asked_order order_of
asked_reached m s e os = reached_alike (asked_order m e.mark e.price e.shares) (order_of m s 0 e) refl refl os

-- what an entry would do

module _ (v : Venue) (e : Entry) where
  abbrev asked : Order
  asked = asked_order v.market e.mark e.price e.shares

  abbrev working : Order
  working = order_of v.market (v.last_stamp + 1) 0 e

  abbrev the_reports : List Report
  the_reports = (effect_of_entry v.market v 0 e).reports

  work_reports : executed_for e.id the_reports ≡ executed_for working.id (work working v.orders).reports
  unfolding effect_of_entry entering executed_for order_of
  work_reports = omega arith

  module _ (s : T (sound v)) (i : v.last_id < e.id) where
    -- its reports execute those of its shares that it reaches
    entry_executed : executed_for e.id the_reports + (e.shares - all_reached asked v.orders) ≡ e.shares
    unfolding order_of
    entry_executed =
        let g = (sound_venue v s).book in
        omega (arith, work_reports, asked_reached v.market (v.last_stamp + 1) e v.orders, work_executed working v.orders refl (book_others g i) (book_distinct g))

    all_executed : 1 ≤ e.shares → leb e.shares (all_reached asked v.orders) ≡ eqb (executed_for e.id the_reports) e.shares
    all_executed p =
        let k : ℕ = all_reached asked v.orders in
        let x : ℕ = executed_for e.id the_reports in
        bool_ext (leb e.shares k) (eqb x e.shares) (λ t. eq→T {m = x} {n = e.shares} (omega (arith, leb→le e.shares k t, entry_executed))) (λ t. le→leb e.shares k (omega (arith, eqb→eq x e.shares t, entry_executed, p)))

pub true_of_the_effect : TrueOfTheEffect
unfolding would_fill asked_order order_of
true_of_the_effect v e i r q =
    let w : Order = asked_order v.market e.mark e.price e.shares in
    let t = told v e.mark e.price e.shares _ r q in
    let u = unrefused (sound v) 16 _ t.0 in
    ap (λ (f : FrontRead). f.fills) (sym t.1) ∙ front_fills w v.orders ∙ all_executed v e u.0 i (asked_shares (v.market.step) e.mark e.price e.shares u.1)

-- an entry that isn't refused

module _ (v : Venue) (e : Entry) (n : ℕ) (r : refusal v (entry e) n ≡ none) where
  known : NotRefused v (entry e) n
  known = none_known v (entry e) n r

  -- the question isn't either
  question_given : answer_for v e ≡ gives (front_read (asked v e) v.orders)
  unfolding would_fill fill_unless of_venue_terms_or_mark
  question_given =
      ap (λ (x : Option ℕ). fill_unless x v e.mark e.price e.shares) (sym (refusal_asked v e n known.buffer known.events) ∙ ap of_venue_terms_or_mark r)

  accepted_true : TrueOf e (the_reports v e) (answer_for v e)
  accepted_true =
      record { front = front_read (asked v e) v.orders; answers = question_given; truth = true_of_the_effect v e known.allowed.place.new_id _ question_given }

pub tells_the_truth : TellsTheTruth
unfolding step step_unless effect_of
tells_the_truth v e n rs q = go (refusal v (entry e) n) refl q
  where
    go : (x : Option ℕ) → refusal v (entry e) n ≡ x → (step_unless x v (entry e)).answer ≡ gives rs → TrueOf e rs (answer_for v e)
    go (some k) r z = let y : ◌≡◌ {A = ℕ} 0 1 = cc in absurd (omega arith)
    go none r z =
        let y : (effect_of_entry v.market v 0 e).reports ≡ rs = cc in
        subst (λ (l : List Report). TrueOf e l (answer_for v e)) y (accepted_true v e n r)

-- Of the calls

-- on words that are laid out as a venue
in_words : (w : List ℕ) (mark price shares : ℕ) → T (is_book w) → would_fill_in w mark price shares ≡ would_fill (venue_of w) mark price shares
unfolding would_fill_in
in_words w mark price shares t = pick_yes (is_book w) _ _ t

pub in_words_shortest : (w : List ℕ) (mark price shares : ℕ) (r : FrontRead) → would_fill_in w mark price shares ≡ gives r → ReadShortest (asked_order (venue_of w).market mark price shares) (resting w) r
unfolding would_fill_in venue_of
in_words_shortest w mark price shares r =
    by_test
    (λ (o : Outcome FrontRead). o ≡ gives r → ReadShortest (asked_order (venue_of w).market mark price shares) (resting w) r)
    (is_book w)
    (λ t q. reads_shortest (venue_of w) mark price shares r q)
    (λ t q. let z : ◌≡◌ {A = ℕ} 0 1 = cc in absurd (omega arith))

pub reads_shortest_in_calls : ReadsShortestInCalls
reads_shortest_in_calls w mark price shares t q r e = in_words_shortest w mark price shares r (sym q ∙ e)

pub true_of_call : (w : List ℕ) (e : Entry) → Word e.id → {b : List ℕ} {count : ℕ} {w' b' : List ℕ} → Applied w (entry e) b (gives count) w' b' → {o : Outcome FrontRead} → o ≡ answer_in w e → TrueOfBytes e b' count o
true_of_call w e i {b} {count} {w'} {b'} a {o} q = go (step_in w (entry e) (length b)).answer refl a.answers a.buffer
  where
    go : (x : Outcome (List Report)) → (step_in w (entry e) (length b)).answer ≡ x → gives count ≡ count_of x → b' ≡ buffer_after b x → TrueOfBytes e b' count o
    go (refuses k) s c f = let y : ◌≡◌ {A = ℕ} 0 1 = cc in absurd (omega arith)
    go (gives rs) s c f =
        let v : Venue = venue_of w in
        let t : T (is_book w) = (accepted_call a).0 in
        let l : count ≡ length (reports_bytes rs) = cc in
        let z : (step v (entry e) (length b)).answer ≡ gives rs = sym (ap (λ (x : Step). x.answer) (step_in_lem w (entry e) (length b) t)) ∙ s in
        record {
          read = rs;
          readable = rw (f, l) (bytes_read b rs (subst (Readable (length b)) z (step_readable v (entry e) (length b) i)));
          is = subst (TrueOf e rs) (sym (q ∙ in_words w e.mark e.price e.shares t)) (tells_the_truth v e (length b) rs z);
        }

pub tells_the_truth_of_calls : TellsTheTruthOfCalls
tells_the_truth_of_calls w e i b count w' b' a told q = true_of_call w e i a q

-- words that are laid out as no venue are refused with 16

refused_chosen : (w : List ℕ) (e : Entry) (laid : Bool) → refusal_given (pick laid (answer_for (venue_of w) e) (refuses 16)) ≡ refuse_unless (laid && sound (venue_of w)) 16 (of_venue_terms_or_mark (refusal_of_kind (venue_of w) (entry e)))
unfolding pick refuse_unless
refused_chosen w e true = refused_by_kind (venue_of w) e
refused_chosen w e false = refl

pub refused_by_kind_in_words : (w : List ℕ) (e : Entry) → refusal_given (answer_in w e) ≡ refuse_unless (sound_words w) 16 (of_venue_terms_or_mark (refusal_of_kind (venue_of w) (entry e)))
unfolding would_fill_in sound_words
refused_by_kind_in_words w e = refused_chosen w e (is_book w)

pub refused_by_kind_in_calls : RefusedByKindInCalls
refused_by_kind_in_calls w e told q = ap refusal_given q ∙ refused_by_kind_in_words w e

module _ (w : List ℕ) (e : Entry) (n : ℕ) (l : least_buffer ≤ n) (a : (venue_of w).accepted_events < most_events) where
  chosen : (laid : Bool) → refusal_given (pick laid (answer_for (venue_of w) e) (refuses 16)) ≡ of_venue_terms_or_mark (refusal_given (pick laid (step (venue_of w) (entry e) n) (refused_layout w)).answer)
  unfolding pick of_venue_terms_or_mark
  chosen true = refused_as_entries (venue_of w) e n l a
  chosen false = refl

  refused_in_words : refusal_given (answer_in w e) ≡ of_venue_terms_or_mark (refusal_given (step_in w (entry e) n).answer)
  unfolding would_fill_in step_in
  refused_in_words = chosen (is_book w)

pub refused_in_call : (w : List ℕ) (e : Entry) {b : List ℕ} {answer : Outcome ℕ} {w' b' : List ℕ} → Applied w (entry e) b answer w' b' → least_buffer ≤ length b → (venue_of w).accepted_events < most_events → {o : Outcome FrontRead} → o ≡ answer_in w e → refusal_given o ≡ of_venue_terms_or_mark (refusal_given answer)
refused_in_call w e {b} a l n q =
    ap refusal_given q ∙ refused_in_words w e (length b) l n ∙ ap of_venue_terms_or_mark (sym (ap refusal_given a.answers ∙ count_given (step_in w (entry e) (length b)).answer))

pub refused_as_entries_in_calls : RefusedAsEntriesInCalls
refused_as_entries_in_calls w e b answer w' b' a l n told q = refused_in_call w e a l n q

pub no_question_of_calls_gets_16 : NoQuestionOfCallsGets16
no_question_of_calls_gets_16 s close i t cs w c mark price shares told q z =
    words_not_16 w mark price shares (reached_words s close i t (opened_book s close i t) (opened_venue s close i t) c) (sym q ∙ z)
