-- Would it fill: document 02, No. 4, of a venue and of the words that mean one. Assumes nothing.
use Rattle.std.specs.Prelude.{ℕ, List, Result, Ok, Err}
use Rattle.std.proofs.Math.Option.{Option, none, some}
use Rattle.numbers.specs.Tests.{pick}
use Rattle.numbers.specs.Answers.{Outcome, gives, refuses}
use Rattle.book.specs.declared.Order.{Order}
use Rattle.book.specs.declared.FrontRead.{FrontRead}
use Rattle.book.specs.rules.Fill.{front_read}
use Rattle.book.specs.rules.Words.{is_book}
use Rattle.engine.specs.declared.Market.{Market}
use Rattle.engine.specs.declared.Entry.{Entry}
use Rattle.engine.specs.declared.Refusal.{Refusal}
use Rattle.engine.specs.rules.Working.{order_of}
use Rattle.engine.specs.rules.Venue.{Venue}
use Rattle.engine.specs.rules.Sound.{sound}
use Rattle.engine.specs.rules.Refusals.{refuse_unless, refusal_of_asked}
use Rattle.engine.specs.rules.Answers.{refusal_number}
use Rattle.engine.specs.rules.Layout.{venue_of}

-- "Given a mark, limit and shares": the entry that is asked about. Whom it reaches doesn't depend on its id, show, life and slide
abbrev pub asked_entry : ℕ → ℕ → ℕ → Entry
asked_entry mark price shares = record { id = 0; mark = mark; price = price; shares = shares; show = 0; life = 0; slide = 0 }

-- the order that it would be now, "with the restriction applied"; "a price of 0 means market as there"; No. 7: "The fill question has owner 0"
unfoldable pub asked_order : Market → ℕ → ℕ → ℕ → Order
asked_order m mark price shares = order_of m 0 0 (asked_entry mark price shares)

-- "tell whether an entry would fill in full now", with "the count of orders read"
unfoldable pub fill_unless : Option ℕ → Venue → ℕ → ℕ → ℕ → Outcome FrontRead
fill_unless (some n) v mark price shares = refuses n
fill_unless none v mark price shares = gives (front_read (asked_order v.market mark price shares) v.orders)

-- "The venue check, price, shares and mark are refused as in an entry"; "a full book or spent events don't matter to it"
unfoldable pub would_fill : Venue → ℕ → ℕ → ℕ → Outcome FrontRead
would_fill v mark price shares =
    fill_unless (refuse_unless (sound v) 16 (refusal_of_asked (v.market.step) mark price shares)) v mark price shares

-- of the venue that the words mean; words that are laid out as none are refused with 16
unfoldable pub would_fill_in : List ℕ → ℕ → ℕ → ℕ → Outcome FrontRead
would_fill_in w mark price shares = pick (is_book w) (would_fill (venue_of w) mark price shares) (refuses 16)

-- the paper's terms for an answer
abbrev pub outcome_of_fill : Result FrontRead Refusal → Outcome FrontRead
outcome_of_fill (Ok r) = gives r
outcome_of_fill (Err r) = refuses (refusal_number r)
