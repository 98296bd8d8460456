-- has_name: an answer for each need; what carries weight stands in the laws.
use Rattle.text_writer.proofs.Names as laws
use Rattle.text_writer.proofs.has_name.Goals as goal

pub returns-in-1-to-9 : goal.returns-in-1-to-9
returns-in-1-to-9 c = search laws.fits_one

pub returns-in_default : goal.returns-in_default
returns-in_default c = search laws.fits_none

pub returns-in_default-2 : goal.returns-in_default-2
returns-in_default-2 c = search laws.fits_low

pub returns-in_default-3 : goal.returns-in_default-3
returns-in_default-3 c = search laws.fits_high

pub returns-in_default-4 : goal.returns-in_default-4
returns-in_default-4 c = search laws.fits_more

pub returns-in-Code : goal.returns-in-Code
returns-in-Code c = search laws.fits_code

pub returns-in-Data : goal.returns-in-Data
returns-in-Data c = search laws.fits_data
