use Rattle.pst_mail.proofs.LookUpLaws.{folder_law, views_law}
use Rattle.pst_mail.proofs.laws.message_look_ups.Goals as goal

pub returns : goal.returns
returns c = record { folders = folder_law; views = views_law }
