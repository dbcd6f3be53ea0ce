-- Wishes as the definitions have them.
use Rattle.sb_cascade.specs.declared.wish.Wish as code
use Rattle.sb_cascade.specs.declared.wish.Wish.TheVariants as code_wish
use Rattle.sb_fold.specs.Wishes.{Wish, Put, Remove, Replace, Raise}

abbrev pub wish_of : code.Wish → Wish
wish_of (code_wish.Put row) = Put row
wish_of (code_wish.Remove key) = Remove key
wish_of (code_wish.Replace key row) = Replace key row
wish_of (code_wish.Raise key column by) = Raise key column by
