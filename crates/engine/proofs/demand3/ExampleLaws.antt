-- The twelve sums, the one day and the slides of document 01, a day of market orders, one at a step of 50, days of falls, entries with bad codes, questions whether an entry would fill, days of firms, full books, slid prices and timed prices, by computation. Assumes nothing.
use native.Mathlib.Omega.{arith}
use mathlib.Core.Path.{◌≡◌, refl, sym, subst}
use mathlib.Core.List.{List, [], ◌∷◌}
use Rattle.numbers.specs.Tests
use Rattle.numbers.specs.SevenBit
use Rattle.prices.specs.Prices
use Rattle.prices.specs.Restriction
use Rattle.prices.specs.Watch
use Rattle.prices.specs.Pause
use Rattle.book.specs.rules.Orders
use Rattle.book.specs.rules.Matching
use Rattle.book.specs.rules.Fill as front
use Rattle.book.specs.rules.Sound as order-conditions
use Rattle.engine.specs.rules.Market
use Rattle.engine.specs.rules.Working
use Rattle.engine.specs.rules.Pass
use Rattle.engine.specs.rules.Venue
use Rattle.engine.specs.rules.Sound
use Rattle.engine.specs.rules.Refusals
use Rattle.engine.specs.rules.Run
use Rattle.engine.specs.rules.Run.{Answered}
use Rattle.engine.specs.rules.Fill
use Rattle.engine.specs.claims.Account
use Rattle.engine.specs.claims.SlidPrices.{PricesGiven, prices_of, OnlyFall, OnlyFallFor}
use Rattle.engine.specs.claims.Examples.{TwelveSums, HalfCentSums, Played, FirmsPlayedAtBoth, FullBookPlayedAtBoth, short_with, hidden_short, displayed_before, HiddenToo, AtItsLimitToo, SlidPricesComputed, PausesComputed, CodesInOrder, FillsTold, OtherSteps}

pub twelve_sums_lem : TwelveSums
unfolding Prices.permitted Restriction.triggers SevenBit.byte_count SevenBit.bytes_of SevenBit.groups Tests.pick
twelve_sums_lem = tt

pub half_cent_sums_lem : HalfCentSums
unfolding Prices.legal Prices.is_bid Prices.permitted Tests.pick
half_cent_sums_lem = tt

pub played : Played
unfolding Tests.pick Tests.every Prices.is_step Prices.legal Prices.is_bid Prices.permitted Restriction.triggers Restriction.phase_after_tape Restriction.phase_after_day_end Restriction.restriction_on Orders.find Orders.if_same Orders.resting_shares Orders.without Orders.insert Matching.reaches Matching.better Matching.better_of Matching.best_from Matching.best Matching.counterparty Matching.execution Matching.after_trade Matching.trading Matching.withdrawing Matching.same_owner Matching.meeting Matching.matching_with Matching.matching_up_to Matching.matching Pause.last_time Pause.times_in_order Pause.sound_kept order-conditions.ids_rise order-conditions.stamps_differ order-conditions.sound_order Market.restricted Market.permitted_now Working.limit_of Working.follows_bid Working.life_of Working.working_price Working.order_of Working.remainder Working.after_remainder Working.work Pass.displayed_clear Pass.move_down Pass.slide_once Pass.slide_down Pass.may_slide Pass.move_of Pass.after_move Pass.pass_one Pass.pass_over Venue.opened Venue.entering Venue.effect_of_entry Venue.effect_of_cancel Venue.the_pass Venue.restriction_report Venue.effect_of_day_end Venue.effect_of Sound.sound Refusals.refuse_unless Refusals.first_of Refusals.refusal_of_terms Refusals.refusal_of_codes Refusals.refusal_of_owner Refusals.refusal_of_place Refusals.refusal_of_entry Refusals.rests Refusals.refusal_of_kind Refusals.refusal Run.step_unless Run.step Run.run
played =
    record { the_day = refl; clear_stays = refl; hidden_moves = refl; sliding_matches = refl; new_stamp = refl; not_clear = refl; once_only = refl; market_day = refl; limit_one = refl; bid_of_one = refl; once_kept = refl; half_cent_day = refl; falling_days = (refl, (refl, tt)); second_fall = refl }

pub firms_played : FirmsPlayedAtBoth
unfolding Tests.pick Tests.every Prices.is_step Prices.legal Prices.is_bid Prices.permitted Restriction.triggers Restriction.phase_after_tape Restriction.phase_after_day_end Restriction.restriction_on Orders.find Orders.if_same Orders.resting_shares Orders.without Orders.insert Matching.reaches Matching.better Matching.better_of Matching.best_from Matching.best Matching.counterparty Matching.execution Matching.after_trade Matching.trading Matching.withdrawing Matching.same_owner Matching.meeting Matching.matching_with Matching.matching_up_to Matching.matching Pause.last_time Pause.times_in_order Pause.sound_kept order-conditions.ids_rise order-conditions.stamps_differ order-conditions.sound_order Market.restricted Market.permitted_now Working.limit_of Working.follows_bid Working.life_of Working.working_price Working.order_of Working.remainder Working.after_remainder Working.work Pass.displayed_clear Pass.move_down Pass.slide_once Pass.slide_down Pass.may_slide Pass.move_of Pass.after_move Pass.pass_one Pass.pass_over Venue.opened Venue.entering Venue.effect_of_entry Venue.effect_of_cancel Venue.the_pass Venue.restriction_report Venue.effect_of_day_end Venue.effect_of Sound.sound Refusals.refuse_unless Refusals.first_of Refusals.refusal_of_terms Refusals.refusal_of_codes Refusals.refusal_of_owner Refusals.refusal_of_place Refusals.refusal_of_entry Refusals.rests Refusals.refusal_of_kind Refusals.refusal Run.step_unless Run.step Run.run Account.set_at
firms_played =
    (record { entry_meets = refl; left_resting = refl; pass_meets = refl; bad_owners = refl; behind_stays = refl; immediate = refl; opted_out = refl; market = refl; nobodys = refl; account_of_list = (refl, refl) }, (record { entry_meets = refl; left_resting = refl; pass_meets = refl; bad_owners = refl; behind_stays = refl; immediate = refl; opted_out = refl; market = refl; nobodys = refl; account_of_list = (refl, refl) }, tt))

pub full_book_played : FullBookPlayedAtBoth
unfolding Tests.pick Tests.every Prices.is_step Prices.legal Prices.is_bid Prices.permitted Restriction.restriction_on Orders.without Orders.insert Matching.reaches Matching.better Matching.better_of Matching.best_from Matching.best Matching.counterparty Matching.execution Matching.after_trade Matching.trading Matching.same_owner Matching.meeting Matching.matching_with Matching.matching_up_to Matching.matching Pause.last_time Pause.times_in_order Pause.sound_kept order-conditions.ids_rise order-conditions.stamps_differ order-conditions.sound_order Market.restricted Market.permitted_now Working.limit_of Working.follows_bid Working.life_of Working.working_price Working.order_of Working.remainder Working.after_remainder Working.work Venue.entering Venue.effect_of_entry Venue.effect_of Sound.sound Refusals.refuse_unless Refusals.first_of Refusals.refusal_of_terms Refusals.refusal_of_codes Refusals.refusal_of_owner Refusals.refusal_of_place Refusals.refusal_of_entry Refusals.refusal_of_kind Refusals.refusal Run.step_unless Run.step Run.run
full_book_played =
    (record { handled = refl; by_terms = refl; with_a_bid = refl; exempt = refl; without_a_bid = refl; not_restricted = refl; of_firms = refl }, (record { handled = refl; by_terms = refl; with_a_bid = refl; exempt = refl; without_a_bid = refl; not_restricted = refl; of_firms = refl }, tt))

-- the law isn't true of an order whose prices rise
rising_refutes : (These : PricesGiven → Type 0) (xs : List Answered) (g : PricesGiven) → prices_of xs 1 ≡ g → These g → (OnlyFall g → ⊥) → OnlyFallFor These xs → ⊥
rising_refutes These xs g e t n h = n (subst OnlyFall e (h 1 (subst These (sym e) t)))

pub slid_prices_computed : SlidPricesComputed
unfolding Tests.pick Tests.every Prices.is_step Prices.legal Prices.is_bid Prices.permitted Restriction.triggers Restriction.phase_after_tape Restriction.phase_after_day_end Restriction.restriction_on Orders.find Orders.if_same Orders.resting_shares Orders.without Orders.insert Matching.reaches Matching.better Matching.better_of Matching.best_from Matching.best Matching.counterparty Matching.execution Matching.after_trade Matching.trading Matching.withdrawing Matching.same_owner Matching.meeting Matching.matching_with Matching.matching_up_to Matching.matching Pause.last_time Pause.times_in_order Pause.sound_kept order-conditions.ids_rise order-conditions.stamps_differ order-conditions.sound_order Market.restricted Market.permitted_now Working.limit_of Working.follows_bid Working.life_of Working.working_price Working.order_of Working.remainder Working.after_remainder Working.work Pass.displayed_clear Pass.move_down Pass.slide_once Pass.slide_down Pass.may_slide Pass.move_of Pass.after_move Pass.pass_one Pass.pass_over Venue.opened Venue.entering Venue.effect_of_entry Venue.effect_of_cancel Venue.the_pass Venue.restriction_report Venue.effect_of_day_end Venue.effect_of Sound.sound Refusals.refuse_unless Refusals.first_of Refusals.refusal_of_terms Refusals.refusal_of_codes Refusals.refusal_of_owner Refusals.refusal_of_place Refusals.refusal_of_entry Refusals.rests Refusals.refusal_of_kind Refusals.refusal Run.step_unless Run.step Run.run Account.set_at
slid_prices_computed =
    record {
      days = record { day_prices = refl; day_stamps = refl; day_trades = refl; over_days = record { answered = refl; prices = refl }; stamps_go_on = refl; repriced_takes = refl };
      at_both = (
        record {
          continuous = record { answered = refl; prices = refl };
          once = record { answered = refl; prices = refl };
          no_more = record { answered = refl; prices = refl };
          opt_out = record { answered = refl; prices = refl };
          market = record { answered = refl; prices = refl };
          of_firm = record { answered = refl; prices = refl };
          hidden_rises = record { answered = refl; prices = refl };
          not_of_hidden = rising_refutes HiddenToo (hidden_short 100) (short_with 0 0 90_500 91_100 (91_300 ∷ [])) refl (refl, omega arith) (λ f. omega (arith, f.falling.0));
          displayed_before_rises = record { answered = refl; prices = refl };
          not_at_its_limit = rising_refutes AtItsLimitToo (displayed_before 100) (short_with 1 0 91_000 91_000 (91_100 ∷ [])) refl (refl, refl, omega arith) (λ f. omega (arith, f.falling.0));
        },
        (
          record {
            continuous = record { answered = refl; prices = refl };
            once = record { answered = refl; prices = refl };
            no_more = record { answered = refl; prices = refl };
            opt_out = record { answered = refl; prices = refl };
            market = record { answered = refl; prices = refl };
            of_firm = record { answered = refl; prices = refl };
            hidden_rises = record { answered = refl; prices = refl };
            not_of_hidden = rising_refutes HiddenToo (hidden_short 50) (short_with 0 0 90_500 91_050 (91_250 ∷ [])) refl (refl, omega arith) (λ f. omega (arith, f.falling.0));
            displayed_before_rises = record { answered = refl; prices = refl };
            not_at_its_limit = rising_refutes AtItsLimitToo (displayed_before 50) (short_with 1 0 91_000 91_000 (91_050 ∷ [])) refl (refl, refl, omega arith) (λ f. omega (arith, f.falling.0));
          },
          tt,
        ),
      );
    }

pub pauses_computed : PausesComputed
unfolding Tests.pick Tests.every Tests.any Prices.is_step Prices.legal Prices.is_bid Prices.permitted Restriction.triggers Restriction.phase_after_tape Restriction.phase_after_day_end Restriction.restriction_on Orders.find Orders.if_same Orders.resting_shares Orders.without Orders.insert Matching.reaches Matching.better Matching.better_of Matching.best_from Matching.best Matching.counterparty Matching.execution Matching.after_trade Matching.trading Matching.withdrawing Matching.same_owner Matching.meeting Matching.matching_with Matching.matching_up_to Matching.matching Pause.within Pause.keeping Pause.some_fall Pause.some_rise Pause.direction Pause.last_time Pause.times_in_order Pause.sound_kept order-conditions.ids_rise order-conditions.stamps_differ order-conditions.sound_order Market.restricted Market.permitted_now Working.limit_of Working.follows_bid Working.life_of Working.working_price Working.order_of Working.remainder Working.after_remainder Working.work Pass.displayed_clear Pass.move_down Pass.slide_once Pass.slide_down Pass.may_slide Pass.move_of Pass.after_move Pass.pass_one Pass.pass_over Venue.opened Venue.entering Venue.effect_of_entry Venue.effect_of_cancel Venue.the_pass Venue.restriction_report Venue.direction_report Venue.effect_of_day_end Venue.effect_of Sound.sound Refusals.refuse_unless Refusals.first_of Refusals.refusal_of_terms Refusals.refusal_of_codes Refusals.refusal_of_owner Refusals.refusal_of_place Refusals.refusal_of_entry Refusals.rests Refusals.refusal_of_time Refusals.refusal_of_kind Refusals.refusal Run.step_unless Run.step Run.run
pauses_computed =
    record {
      at_both = (
        record { days = refl; fall_before_rise = refl; as_a_tape = refl; tape_unseen = refl; highest = refl; full = refl; place = refl; broken = refl; unbroken = refl },
        (record { days = refl; fall_before_rise = refl; as_a_tape = refl; tape_unseen = refl; highest = refl; full = refl; place = refl; broken = refl; unbroken = refl }, tt),
      );
      illegal_in_cents = refl;
      legal_in_half_cents = refl;
    }

pub codes_in_order : CodesInOrder
unfolding Tests.pick Tests.every Prices.is_step Prices.legal Prices.is_bid Pause.last_time Pause.times_in_order Pause.sound_kept order-conditions.ids_rise order-conditions.stamps_differ Venue.opened Sound.sound Refusals.refuse_unless Refusals.first_of Refusals.refusal_of_terms Refusals.refusal_of_codes Refusals.refusal_of_place Refusals.refusal_of_entry Refusals.refusal_of_kind Refusals.refusal Run.step_unless Run.step Run.run
codes_in_order = (refl, (refl, tt))

pub fills_told : FillsTold
unfolding Tests.pick Tests.every Prices.is_step Prices.legal Prices.is_bid Prices.permitted Restriction.triggers Restriction.phase_after_tape Restriction.phase_after_day_end Restriction.restriction_on Orders.find Orders.if_same Orders.resting_shares Orders.without Orders.insert Matching.reaches Matching.better Matching.better_of Matching.best_from Matching.best Matching.counterparty Matching.execution Matching.after_trade Matching.trading Matching.withdrawing Matching.same_owner Matching.meeting Matching.matching_with Matching.matching_up_to Matching.matching Pause.last_time Pause.times_in_order Pause.sound_kept order-conditions.ids_rise order-conditions.stamps_differ order-conditions.sound_order Market.restricted Market.permitted_now Working.limit_of Working.follows_bid Working.life_of Working.working_price Working.order_of Working.remainder Working.after_remainder Working.work Pass.displayed_clear Pass.move_down Pass.slide_once Pass.slide_down Pass.may_slide Pass.move_of Pass.after_move Pass.pass_one Pass.pass_over Venue.opened Venue.entering Venue.effect_of_entry Venue.effect_of_cancel Venue.the_pass Venue.restriction_report Venue.effect_of_day_end Venue.effect_of Sound.sound Refusals.refuse_unless Refusals.first_of Refusals.refusal_of_terms Refusals.refusal_of_codes Refusals.refusal_of_owner Refusals.refusal_of_place Refusals.refusal_of_entry Refusals.rests Refusals.refusal_of_kind Refusals.refusal Run.step_unless Run.step Run.run Refusals.refusal_of_asked front.shares_reached front.all_reached front.suffices front.least_below front.front_length front.front_read Fill.asked_order Fill.fill_unless Fill.would_fill
fills_told = record { cents = refl; half_cents = refl; empty = refl; spent = refl; broken = refl }

pub other_steps_lem : OtherSteps
unfolding Tests.pick Tests.every Prices.is_step Prices.at_step Prices.permitted_of Watch.watch_outcome Pause.last_time Pause.times_in_order Pause.sound_kept order-conditions.ids_rise order-conditions.stamps_differ Venue.opened Venue.opening Sound.sound Refusals.refuse_unless Refusals.refusal Run.step_unless Run.step
other_steps_lem =
    record {
      opening = (refl, (refl, (refl, (refl, (refl, (refl, (refl, tt)))))));
      permitted = (refl, (refl, (refl, (refl, (refl, (refl, (refl, tt)))))));
      watch = (refl, (refl, (refl, (refl, (refl, (refl, (refl, tt)))))));
      event = (refl, (refl, (refl, (refl, (refl, (refl, (refl, tt)))))));
    }
