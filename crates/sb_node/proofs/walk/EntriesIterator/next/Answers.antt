use Rattle.std.proofs.Common.{arith}
use Rattle.sb_node.proofs.Runs.{left_inside}
use Rattle.sb_node.proofs.walk.EntriesIterator.next.Goals as goal

pub key_of-key-requires-clause-low : goal.key_of-key-requires-clause-low
key_of-key-requires-clause-low c = (left_inside c.args.self.now.page.now c.args.self.now.left c.args.self.now.at c.args.self.now.form c.args.self.now.filled (omega arith)).low

pub key_of-key-requires-clause-within : goal.key_of-key-requires-clause-within
key_of-key-requires-clause-within c = (left_inside c.args.self.now.page.now c.args.self.now.left c.args.self.now.at c.args.self.now.form c.args.self.now.filled (omega arith)).within

pub value_of-value-requires-clause-low : goal.value_of-value-requires-clause-low
value_of-value-requires-clause-low c = (left_inside c.args.self.now.page.now c.args.self.now.left c.args.self.now.at c.args.self.now.form c.args.self.now.filled (omega arith)).low

pub value_of-value-requires-clause-within : goal.value_of-value-requires-clause-within
value_of-value-requires-clause-within c = (left_inside c.args.self.now.page.now c.args.self.now.left c.args.self.now.at c.args.self.now.form c.args.self.now.filled (omega arith)).within

pub after_of-after-requires-clause-within : goal.after_of-after-requires-clause-within
after_of-after-requires-clause-within c = (left_inside c.args.self.now.page.now c.args.self.now.left c.args.self.now.at c.args.self.now.form c.args.self.now.filled (omega arith)).low

pub after_of-after-requires-clause-low : goal.after_of-after-requires-clause-low
after_of-after-requires-clause-low c = (left_inside c.args.self.now.page.now c.args.self.now.left c.args.self.now.at c.args.self.now.form c.args.self.now.filled (omega arith)).short
