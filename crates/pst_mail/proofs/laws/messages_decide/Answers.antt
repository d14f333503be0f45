use Rattle.pst_mail.proofs.MessageLaws.{message_law, attachment_law}
use Rattle.pst_mail.proofs.laws.messages_decide.Goals as goal

pub returns : goal.returns
returns c = record { messages = message_law; attachments = attachment_law }
