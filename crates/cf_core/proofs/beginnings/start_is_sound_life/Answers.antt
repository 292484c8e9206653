pub returns : Rattle.cf_core.proofs.beginnings.start_is_sound_life.Goals.returns
returns c = Rattle.cf_core.proofs.KeepSound.start_is_sound_life
