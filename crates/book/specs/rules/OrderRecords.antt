-- The record of an order in a run that a host lends: document 01, "Copy out": "a lent run of order records"; document 02, No. 7: "The order
-- record and copy out show the owner". Assumes nothing.
use Rattle.book.specs.declared.Order.{Order}
use Rattle.book.specs.declared.OrderRecord.{OrderRecord}
use Rattle.book.specs.rules.Words.{flag_word}

-- the fields of the order, a flag as the word 0 or 1
abbrev pub record_of : Order → OrderRecord
record_of o =
    record {
      id = o.id;
      mark = o.mark;
      limit = o.limit;
      shares = o.shares;
      show = o.show;
      life = o.life;
      slide = o.slide;
      stamp = o.stamp;
      price = o.price;
      entry_bid = o.entry_bid;
      adjusted = flag_word o.adjusted;
      used = flag_word o.used;
      clear = flag_word o.clear;
      market = flag_word o.market;
      owner = o.owner;
    }
