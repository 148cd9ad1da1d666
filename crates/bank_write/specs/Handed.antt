-- The lists that the code holds, as the definitions of a written bank have them. Assumes nothing.
use Rattle.bank_write.specs.Write.{Lists, lists}
use Rattle.bank_write.specs.declared.lists.Lists.{Lists as Held}

abbrev pub handed : Held → Lists
handed ls = lists ls.kinds.now ls.offsets.now ls.counts.now
