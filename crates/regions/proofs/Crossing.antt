-- A page's regions may be sent to another thread, since a tree of boxes means the same in each
-- thread.
use denote.Param.Send.{IsSend, plain_send, view_send}
use denote.Param.SendFields.{declared_send, variants_send, as_row_send}
use denote.Struct.Field.{row_field}
use denote.Hole.{as_row}
use denote.Hole.FixSend.{fix_send, Sends}
use Rattle.std.proofs.Crossing.{Box-send, Vec-send}
use Rattle.std.specs.contracts.alloc.Global as Global
use Rattle.std.specs.contracts.boxed.Box as Box
use Rattle.std.specs.contracts.impls.GlobalAllocator.TheImpl as heap
use Rattle.regions.proofs.layout.Shown.TheSendSync as shown
use Rattle.regions.proofs.node.Way.TheSendSync as way
use Rattle.regions.specs.contracts.layout.Layout as Layout
use Rattle.regions.specs.contracts.layout.Layout.TheInside as inside
use Rattle.regions.specs.contracts.node.Node as Node
use Rattle.regions.specs.contracts.node.Node.TheKnot as knot
use Rattle.regions.specs.contracts.layout.Shown as Shown
use Rattle.regions.specs.contracts.node.Way as Way

-- the boxes of one layer may be sent, if what they hold may be
hole_send : IsSend knot.hole-Node
hole_send = fix_send knot.ring (Node.by_members (Sends knot.ring) (record {
  send = λ h all. let R = h knot.member-Node in let half = as_row_send
      (row_field (Box.the_row R Global.the_row heap.ghosts)) (Box-send R (all knot.member-Node)) in
      variants_send (knot.type-Node R R)
      (tt, ((as_row_send (row_field (as_row Way.the_field)) way.the_send, (half, (half, tt))), tt));
})) knot.member-Node

node_send : IsSend Node.the_row
node_send = let half = Box-send knot.hole-Node hole_send in variants_send Node.enum
    (tt, ((way.the_send, (half, (half, tt))), tt))

pub layout_send : IsSend Layout.the_row
layout_send = view_send inside.the_row _ _ _ _
    (declared_send inside.the_type (node_send, (plain_send _ _ _ _ _, (Vec-send Shown.the_row shown.the_send, tt))))
