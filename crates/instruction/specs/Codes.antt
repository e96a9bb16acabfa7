-- The codes of INMOS's guide for the instructions that 01 uses, by name: a function in the high four bits of its byte, an operation as the
-- operand of OPR.
use Rattle.std.specs.Prelude.{ℕ}

abbrev pub J : ℕ
J = 0x00

abbrev pub LDLP : ℕ
LDLP = 0x10

abbrev pub LDC : ℕ
LDC = 0x40

abbrev pub LDL : ℕ
LDL = 0x70

abbrev pub CJ : ℕ
CJ = 0xa0

abbrev pub AJW : ℕ
AJW = 0xb0

abbrev pub EQC : ℕ
EQC = 0xc0

abbrev pub STL : ℕ
STL = 0xd0

abbrev pub OPR : ℕ
OPR = 0xf0

abbrev pub REV : ℕ
REV = 0x00

abbrev pub ENDP : ℕ
ENDP = 0x03

abbrev pub DIFF : ℕ
DIFF = 0x04

abbrev pub IN : ℕ
IN = 0x07

abbrev pub PROD : ℕ
PROD = 0x08

abbrev pub GT : ℕ
GT = 0x09

abbrev pub STARTP : ℕ
STARTP = 0x0d

abbrev pub OUTWORD : ℕ
OUTWORD = 0x0f

abbrev pub STOPP : ℕ
STOPP = 0x15

abbrev pub LDPI : ℕ
LDPI = 0x1b

abbrev pub DISC : ℕ
DISC = 0x2f

abbrev pub DISS : ℕ
DISS = 0x30

abbrev pub XOR : ℕ
XOR = 0x33

abbrev pub MINT : ℕ
MINT = 0x42

abbrev pub ALT : ℕ
ALT = 0x43

abbrev pub ALTWT : ℕ
ALTWT = 0x44

abbrev pub ALTEND : ℕ
ALTEND = 0x45

abbrev pub AND : ℕ
AND = 0x46

abbrev pub ENBC : ℕ
ENBC = 0x48

abbrev pub ENBS : ℕ
ENBS = 0x49

abbrev pub OR : ℕ
OR = 0x4b

abbrev pub SUM : ℕ
SUM = 0x52

-- 02, order 4: of the clock
abbrev pub LDTIMER : ℕ
LDTIMER = 0x22

abbrev pub TIN : ℕ
TIN = 0x2b

abbrev pub DIST : ℕ
DIST = 0x2e

abbrev pub ENBT : ℕ
ENBT = 0x47

abbrev pub TALT : ℕ
TALT = 0x4e

abbrev pub TALTWT : ℕ
TALTWT = 0x51
