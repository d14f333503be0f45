use Rattle.std.proofs.Common.{refl}
use Rattle.pst_explain.proofs.table.text_of.Goals as goal

pub returns-in-Short : goal.returns-in-Short
returns-in-Short c = rw c.in-Short.is refl

pub returns-in-Magic : goal.returns-in-Magic
returns-in-Magic c = rw c.in-Magic.is refl

pub returns-in-Version : goal.returns-in-Version
returns-in-Version c = rw c.in-Version.is refl

pub returns-in-Encoded : goal.returns-in-Encoded
returns-in-Encoded c = rw c.in-Encoded.is refl

pub returns-in-HeaderCheck : goal.returns-in-HeaderCheck
returns-in-HeaderCheck c = rw c.in-HeaderCheck.is refl

pub returns-in-Root : goal.returns-in-Root
returns-in-Root c = rw c.in-Root.is refl

pub returns-in-MapsInvalid : goal.returns-in-MapsInvalid
returns-in-MapsInvalid c = rw c.in-MapsInvalid.is refl

pub returns-in-PagePlace : goal.returns-in-PagePlace
returns-in-PagePlace c = rw c.in-PagePlace.is refl

pub returns-in-PageTrailer : goal.returns-in-PageTrailer
returns-in-PageTrailer c = rw c.in-PageTrailer.is refl

pub returns-in-PageShape : goal.returns-in-PageShape
returns-in-PageShape c = rw c.in-PageShape.is refl

pub returns-in-KeyOrder : goal.returns-in-KeyOrder
returns-in-KeyOrder c = rw c.in-KeyOrder.is refl

pub returns-in-Overlap : goal.returns-in-Overlap
returns-in-Overlap c = rw c.in-Overlap.is refl

pub returns-in-BlockPlace : goal.returns-in-BlockPlace
returns-in-BlockPlace c = rw c.in-BlockPlace.is refl

pub returns-in-BlockTrailer : goal.returns-in-BlockTrailer
returns-in-BlockTrailer c = rw c.in-BlockTrailer.is refl

pub returns-in-BlockMissing : goal.returns-in-BlockMissing
returns-in-BlockMissing c = rw c.in-BlockMissing.is refl

pub returns-in-DataTree : goal.returns-in-DataTree
returns-in-DataTree c = rw c.in-DataTree.is refl

pub returns-in-Subnode : goal.returns-in-Subnode
returns-in-Subnode c = rw c.in-Subnode.is refl

pub returns-in-Nesting : goal.returns-in-Nesting
returns-in-Nesting c = rw c.in-Nesting.is refl

pub returns-in-MapPage : goal.returns-in-MapPage
returns-in-MapPage c = rw c.in-MapPage.is refl

pub returns-in-MapMissing : goal.returns-in-MapMissing
returns-in-MapMissing c = rw c.in-MapMissing.is refl

pub returns-in-Heap : goal.returns-in-Heap
returns-in-Heap c = rw c.in-Heap.is refl

pub returns-in-HeapId : goal.returns-in-HeapId
returns-in-HeapId c = rw c.in-HeapId.is refl

pub returns-in-Bth : goal.returns-in-Bth
returns-in-Bth c = rw c.in-Bth.is refl

pub returns-in-Property : goal.returns-in-Property
returns-in-Property c = rw c.in-Property.is refl

pub returns-in-Table : goal.returns-in-Table
returns-in-Table c = rw c.in-Table.is refl

pub returns-in-NodeMissing : goal.returns-in-NodeMissing
returns-in-NodeMissing c = rw c.in-NodeMissing.is refl

pub returns-in-NodeKind : goal.returns-in-NodeKind
returns-in-NodeKind c = rw c.in-NodeKind.is refl

pub returns-in-NoMemory : goal.returns-in-NoMemory
returns-in-NoMemory c = rw c.in-NoMemory.is refl
