use Rattle.script.proofs.Deeds.{deeds_agree}
use Rattle.script.proofs.Players.{lines_are_answers, lines_are_listings}
use Rattle.script.proofs.Sessions.{from_start}
use Rattle.script.proofs.Told.{every_call_is_told}
use Rattle.script.proofs.laws.players_play.Goals as goal

pub returns-clause-answers : goal.returns-clause-answers
returns-clause-answers c = lines_are_answers

pub returns-clause-listings : goal.returns-clause-listings
returns-clause-listings c = lines_are_listings

pub returns-clause-deeds : goal.returns-clause-deeds
returns-clause-deeds c = deeds_agree

pub returns-clause-one_memory : goal.returns-clause-one_memory
returns-clause-one_memory c = from_start

pub returns-clause-told : goal.returns-clause-told
returns-clause-told c = every_call_is_told
