-- No. 4 for hosts: the number of venue_would_fill says what was told, and is the truth about the calls of venue_apply. Assumes nothing.
use Prim.Native.Nat.{ℕ, ◌+◌, ◌*◌, ◌%◌, ◌≤◌, ◌<◌}
use native.Mathlib.Omega.{arith}
use mathlib.Core.Path.{◌≡◌, sym, ap, ap₂, ◌∙◌, subst}
use mathlib.Core.Bool.{Bool, true, false}
use mathlib.Core.List.{List}
use lib.Dec.{leb}
use borrow.Author.Tests.{le-leb, lt-leb, lt-ltb, le-ltb}
use Rattle.numbers.specs.Tests.{pick}
use Rattle.numbers.specs.Answers.{Outcome, gives, refuses}
use Rattle.book.specs.declared.FrontRead.{FrontRead}
use Rattle.engine.specs.declared.Entry.{Entry}
use Rattle.engine.specs.declared.Event.TheVariants.{Entry as entry}
use Rattle.engine.specs.rules.Fill.{would_fill_in}
use Rattle.engine.specs.claims.Calls.{refusal_given, Applied}
use Rattle.engine.specs.claims.Fill.{FillFits}
use Rattle.engine.proofs.bytes.RecordLaws.{record_unique}
use Rattle.engine.proofs.refinement.QuestionLaws.{fills_fit, words_not_16}
use Rattle.engine.proofs.requests.FillLaws.{in_words_shortest, refused_by_kind_in_words, true_of_call, refused_in_call}
use Rattle.host.specs.rules.Host.{host_answer, outcome_of}
use Rattle.host.specs.rules.Fill.{front_number, fill_count, fill_read}
use Rattle.host.specs.claims.Calls.{EventApplied}
use Rattle.host.specs.claims.HostFill.{FillNumbersRead, NoHostQuestionGets16, ReadsShortestForHosts, RefusedByKindForHosts, AskedBefore, TellsHostsTheTruth, RefusedAsEntriesForHosts}
use Rattle.host.proofs.demand3.HostDayLaws.{reached_words_sound}

-- the number

told_read : (n : ℕ) {fills : Bool} {read : ℕ} → n < 65_536 → leb 32_768 n ≡ fills → n % 32_768 ≡ read → fill_read n ≡ gives (record { fills = fills; read = read })
unfolding fill_read pick
told_read n l f r = rw (lt-ltb n 65_536 l) (ap₂ (λ (b : Bool) (k : ℕ). gives (record { fills = b; read = k })) f r)

front_read_lem : (fills : Bool) (read : ℕ) → read ≤ 256 → fill_read (front_number (record { fills = fills; read = read })) ≡ gives (record { fills = fills; read = read })
unfolding front_number pick
front_read_lem true read l = told_read (32_768 + read) (omega arith) (le-leb 32_768 (32_768 + read) (omega arith)) (omega arith)
front_read_lem false read l = told_read read (omega arith) (lt-leb 32_768 read (omega arith)) (omega arith)

number_read : (o : Outcome FrontRead) → FillFits o → fill_read (host_answer (fill_count o)) ≡ o
unfolding fill_read pick
number_read (gives r) f = front_read_lem r.fills r.read f
number_read (refuses n) f = rw (le-ltb (n * 65_536) 65_536 (omega arith)) (ap refuses (omega arith))

pub fill_numbers_read : FillNumbersRead
fill_numbers_read w mark price shares = number_read (would_fill_in w mark price shares) (fills_fit w mark price shares)

pub reads_shortest_for_hosts : ReadsShortestForHosts
reads_shortest_for_hosts w mark price shares asked h r e =
    in_words_shortest w mark price shares r (sym (fill_numbers_read w mark price shares) ∙ ap fill_read (sym h) ∙ e)

pub no_host_question_gets_16 : NoHostQuestionGets16
unfolding fill_read pick
no_host_question_gets_16 w s close w₀ h hs w' c mark price shares z =
    words_not_16 w' mark price shares (reached_words_sound h c) (sym (fill_numbers_read w' mark price shares) ∙ ap fill_read z)

pub refused_by_kind_for_hosts : RefusedByKindForHosts
refused_by_kind_for_hosts w e number h =
    ap refusal_given (ap fill_read h ∙ fill_numbers_read w e.mark e.price e.shares) ∙ refused_by_kind_in_words w e

-- the call behind it

module _ {w bytes b w' b' : List ℕ} {answer end asked : ℕ} {e : Entry} (h : AskedBefore w bytes b answer w' b' e end asked) where
  entered : Applied w (entry e) b (outcome_of answer) w' b'
  entered = let x : EventApplied w (entry e) b answer w' b' = rw h.reads at h.applied in x.applied

  told : fill_read asked ≡ would_fill_in w e.mark e.price e.shares
  told = ap fill_read h.answered ∙ fill_numbers_read w e.mark e.price e.shares

pub tells_hosts_the_truth : TellsHostsTheTruth
unfolding outcome_of pick
tells_hosts_the_truth w bytes b answer w' b' e end asked h l =
    let i = (record_unique bytes 0 _ h.are_bytes h.reads).words in
    true_of_call w e i.1.0 (subst (λ (o : Outcome ℕ). Applied w (entry e) b o w' b') (rw (lt-ltb answer 65_536 l)) (entered h)) (told h)

pub refused_as_entries_for_hosts : RefusedAsEntriesForHosts
refused_as_entries_for_hosts w bytes b answer w' b' e end asked h l n = refused_in_call w e (entered h) l n (told h)
