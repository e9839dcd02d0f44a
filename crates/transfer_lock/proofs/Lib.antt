mod Rising
