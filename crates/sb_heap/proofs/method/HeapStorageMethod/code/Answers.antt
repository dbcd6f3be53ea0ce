use Rattle.sb_heap.proofs.MethodLaws.{IsMethod-heap_method}
use Rattle.sb_heap.proofs.method.HeapStorageMethod.code.Goals as goal

pub returns-clause-law : goal.returns-clause-law
returns-clause-law c = IsMethod-heap_method
