use Rattle.pst_props.proofs.node.write_found.Goals as goal

pub returns-in-Message-clause-put : goal.returns-in-Message-clause-put
returns-in-Message-clause-put g c = rw c.in-Message.is c.write_message.ensures.put
