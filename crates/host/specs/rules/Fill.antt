-- Would it fill (document 02, No. 4) for host programs: one number, and how a host reads it. Assumes nothing.
use Rattle.std.specs.Prelude.{ℕ, ◌+◌, ◌/◌, ◌%◌, List, leb, ltb}
use Rattle.numbers.specs.Tests.{pick}
use Rattle.numbers.specs.Answers.{Outcome, gives, refuses}
use Rattle.book.specs.declared.FrontRead.{FrontRead}
use Rattle.engine.specs.rules.Fill.{would_fill_in}
use Rattle.host.specs.rules.Host.{host_answer}

-- the orders read, at most 256, and 32,768 more for a yes
unfoldable pub front_number : FrontRead → ℕ
front_number r = pick r.fills (32_768 + r.read) r.read

abbrev pub fill_count : Outcome FrontRead → Outcome ℕ
fill_count (gives r) = gives (front_number r)
fill_count (refuses n) = refuses n

-- the number that venue_would_fill answers
abbrev pub fill_number : List ℕ → ℕ → ℕ → ℕ → ℕ
fill_number w mark price shares = host_answer (fill_count (would_fill_in w mark price shares))

-- how a host reads it: below 65,536 a yes or no and the orders read, any other number is a refusal
unfoldable pub fill_read : ℕ → Outcome FrontRead
fill_read answer =
    pick (ltb answer 65_536) (gives (record { fills = leb 32_768 answer; read = answer % 32_768 })) (refuses (answer / 65_536))
