-- "Bid 91,100 is 03 DC C7 05", by computation, both ways. Assumes nothing.
use mathlib.Core.Path.{◌≡◌, refl}
use mathlib.Core.List.{[], ◌∷◌}
use Rattle.numbers.specs.Tests.{pick}
use Rattle.numbers.specs.Answers.{gives}
use Rattle.numbers.specs.SevenBit.{groups, bytes_of, bytes_of_all, judge, groups_at, number_at}
use Rattle.engine.specs.declared.Event.TheVariants.{Bid as bid}
use Rattle.engine.specs.rules.Records.{record_bytes, by_field, fields_at, by_kind, form_at, record_fields, event_of, record_at}

-- in hexadecimal 03 DC C7 05
pub bid_bytes : record_bytes (bid 91_100) ≡ 3 ∷ 220 ∷ 199 ∷ 5 ∷ []
unfolding record_bytes bytes_of_all bytes_of groups pick
bid_bytes = refl

pub bid_read : record_at (3 ∷ 220 ∷ 199 ∷ 5 ∷ []) 0 ≡ gives (record { value = bid 91_100; end = 4 })
unfolding record_at form_at by_kind record_fields fields_at by_field number_at groups_at judge event_of pick
bid_read = refl
